use Rattle.std.proofs.Common.{None}
use Rattle.std.proofs.lemmas.List.{get_or-replicate}
use Rattle.store.proofs.records.Records.none.Goals as goal

pub invariant_of-result-clause-index : goal.invariant_of-result-clause-index
invariant_of-result-clause-index c = λ item below. get_or-replicate 256 item None None below
