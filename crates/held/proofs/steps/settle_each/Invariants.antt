use Rattle.held.proofs.Whole.{SettlesOn}
use Rattle.held.proofs.steps.settle_each.Given as goal

abbrev pub invariant-loop-item : goal.invariant-loop-item
invariant-loop-item g l = SettlesOn g.S.Store.versions l.initial.service l.tool l.items l.item-index l.service
