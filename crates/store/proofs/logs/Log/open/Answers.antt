use Rattle.std.proofs.Common.{is_ok, sym, ap, ◌∙◌}
use Rattle.store.proofs.LogLaws.{good_from, most}
use Rattle.store.proofs.logs.Log.open.Goals as goal

pub open-requires-clause-sound : goal.open-requires-clause-sound
open-requires-clause-sound c = most c.args.bytes.now c.args.count (good_from c.args.bytes.now c.args.count (ap is_ok (sym c.check.ensures ∙ c.in-Ok.is)))
