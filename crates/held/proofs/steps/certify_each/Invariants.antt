use Rattle.held.proofs.Whole.{CertifiesOn}
use Rattle.held.proofs.steps.certify_each.Given as goal

abbrev pub invariant-loop-item : goal.invariant-loop-item
invariant-loop-item g l = CertifiesOn g.S.Store.versions l.initial.service l.tool l.items l.item-index l.service
