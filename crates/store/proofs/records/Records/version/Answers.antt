use Rattle.std.proofs.Common.{sym, ◌∙◌}
use Rattle.store.proofs.RecordLaws.{last_fits}
use Rattle.store.proofs.records.Records.version.Goals as goal

pub record_at-requires : goal.record_at-requires
record_at-requires c =
    last_fits c.args.self.now.area.bytes.now c.args.self.now.used c.args.item c.in-Some.place c.args.self.now.fits
    (sym (c.args.self.now.index c.args.item c.requires) ∙ c.in-Some.is)
