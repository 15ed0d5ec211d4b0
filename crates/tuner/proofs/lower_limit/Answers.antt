use Rattle.std.proofs.Common.{◌∙◌}
use Rattle.tuner.proofs.Handling.{other_made}
use Rattle.tuner.proofs.lower_limit.Goals as goal

pub returns-in_err-certify : goal.returns-in_err-certify
returns-in_err-certify g c = λ t n.
    let v = g.S.Store.versions in
    other_made v _ _ _ _ c.certify.ensures t n
    ∙ (other_made v _ _ _ _ c.close.ensures t n ∙ (other_made v _ _ _ _ c.write.ensures t n ∙ other_made v _ _ _ _ c.begin.ensures t n))

pub returns-in_err-commit : goal.returns-in_err-commit
returns-in_err-commit g c = λ t n.
    let v = g.S.Store.versions in
    other_made v _ _ _ _ c.commit.ensures t n
    ∙ (other_made v _ _ _ _ c.certify.ensures t n
    ∙ (other_made v _ _ _ _ c.close.ensures t n ∙ (other_made v _ _ _ _ c.write.ensures t n ∙ other_made v _ _ _ _ c.begin.ensures t n)))

pub returns : goal.returns
returns g c = λ t n.
    let v = g.S.Store.versions in
    other_made v _ _ _ _ c.settle.ensures t n
    ∙ (other_made v _ _ _ _ c.commit.ensures t n
    ∙ (other_made v _ _ _ _ c.certify.ensures t n
    ∙ (other_made v _ _ _ _ c.close.ensures t n ∙ (other_made v _ _ _ _ c.write.ensures t n ∙ other_made v _ _ _ _ c.begin.ensures t n))))
