use Rattle.std.proofs.Common.{◌/◌, [], length, get_or, ap, ◌∙◌, arith}
use Rattle.std.proofs.lemmas.List.FromFn.{get_or-map-range_with_len}
use Rattle.store.specs.Log.{record_at}
use Rattle.store.proofs.areas.Area.record_at.Goals as goal

pub returns : goal.returns
returns c =
    ap (λ l. get_or l c.args.place []) c.places.ensures.places
    ∙ get_or-map-range_with_len (record_at c.args.self.now.bytes.now) 0 (length c.args.self.now.bytes.now / 25) c.args.place c.args.place [] (omega arith) (omega arith)
