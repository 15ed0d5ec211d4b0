use Rattle.std.proofs.Common.{ℕ, ◌/◌, sym, refl, ap, ◌∙◌}
use Rattle.service.proofs.Largest.{found_largest}
use Rattle.service.proofs.Lawful.{lawful_start}
use Rattle.service.proofs.services.Service.start.Goals as goal

pub invariant_of-result : goal.invariant_of-result
invariant_of-result g c =
    let vs = g.S.Store.versions c.args.store in
    record { lawful = lawful_start vs c.new.result (c.new.ensures vs (ap (λ (n : ℕ). n / 16) (sym (c.largest_stamp.ensures ∙ found_largest vs)))) }

pub returns : goal.returns
returns g c =
    let vs = g.S.Store.versions c.args.store in
    record { store = refl; starts = c.new.ensures vs (ap (λ (n : ℕ). n / 16) (sym (c.largest_stamp.ensures ∙ found_largest vs))) }
