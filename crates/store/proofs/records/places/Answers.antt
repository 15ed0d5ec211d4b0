use Rattle.std.proofs.Common.{◌/◌, length, ◌∙◌}
use Rattle.store.proofs.Chunks.{chunks_are}
use Rattle.store.proofs.records.places.Goals as goal

pub returns-clause-places : goal.returns-clause-places
returns-clause-places c = c.as_chunks.ensures.front ∙ chunks_are c.args.bytes.now (length c.args.bytes.now / 25)
