use Rattle.store.proofs.Compacts.{Pass}
use Rattle.store.proofs.records.Records.compact.Given as goal

abbrev pub invariant-loop-place : goal.invariant-loop-place
invariant-loop-place l = Pass l.initial.area.bytes.now l.area.bytes.now l.used l.place l.end
