use Rattle.std.proofs.Common.{◌/◌, length, take, ap, ◌∙◌, arith}
use Rattle.std.proofs.lemmas.List.FromFn.{take-map-range_with_len}
use Rattle.store.specs.Log.{record_at}
use Rattle.store.proofs.records.records_in.Goals as goal

pub returns-clause-records : goal.returns-clause-records
returns-clause-records c =
    let b = c.args.bytes.now in
    let places = c.places-places.ensures.places in
    let within = c.tagged.ensures.within in
    ap (take c.tagged.result) places
    ∙ take-map-range_with_len (record_at b) 0 (length b / 25) c.tagged.result (omega (arith, c.places-places.ensures.count))
    ∙ simp (c.tagged.ensures.tags, places)
