use Rattle.std.proofs.lemmas.Result.{err_from_is_err_and}
use Rattle.service.specs.Services.{state_of}
use Rattle.tuner.specs.Hands.{IsClosed}
use Rattle.tuner.proofs.Handling.{closed_from, commit_keeps, certified_keeps, refused_keeps}
use Rattle.tuner.proofs.finish.Goals as goal

pub returns-in-Err-Refused : goal.returns-in-Err-Refused
returns-in-Err-Refused g c = λ o.
    let v = g.S.Store.versions in
    let k : IsClosed (state_of v c.close.new.service) c.in_ok-closed.closed.tool c.in_ok-closed.closed.stamp = rw c.in_ok-closed.ensures.held (closed_from v _ _ _ _ _ c.in_ok-closed.ensures.makes o) in
    rw c.from.ensures
    (refused_keeps v c.close.new.service c.certify_all.new.service c.in_ok-closed.closed k c.in-Err-Refused.refusal c.in-Err-Refused.closed (rw c.in-Err-Refused.field-0-is at c.in-Err-Refused.ensures))

pub returns-in_err-commit_all-in-Ok : goal.returns-in_err-commit_all-in-Ok
returns-in_err-commit_all-in-Ok g c = λ o.
    let v = g.S.Store.versions in
    let k : IsClosed (state_of v c.close.new.service) c.in_ok-closed.closed.tool c.in_ok-closed.closed.stamp = rw c.in_ok-closed.ensures.held (closed_from v _ _ _ _ _ c.in_ok-closed.ensures.makes o) in
    let p = err_from_is_err_and c.from_residual-in_err-commit_all-in-Ok.result c.from_residual-in_err-commit_all-in-Ok.ensures.1 in
    rw (p.1, p.2) (commit_keeps v _ _ c.in-Ok.grant c.in_err-commit_all-in-Ok.field-0.0 c.in_err-commit_all-in-Ok.ensures (certified_keeps v _ _ _ k _ c.in-Ok.ensures))
