use Rattle.std.proofs.Common.{ap, ◌∙◌, rules}
use Rattle.std.specs.Option.{option_map}
use Rattle.service.specs.Refusals.{refusal}
use Rattle.service.specs.Certification.{Found, certification, judged}
use Rattle.service.specs.Service.{claim, read_tells, write_tells}
use Rattle.service.specs.Desks.{state}
use Rattle.service.proofs.Standings.{version_or, standing_meets}
use Rattle.service.proofs.desks.Desk.check.Goals as goal

pub returns : goal.returns
returns c vs f =
    c.check.ensures
    ∙ ap (λ (x : Found). judged (refusal (certification (claim c.args.entry c.args.stamp) x)))
    (standing_meets (state vs c.args.self.now) c.args.entry.item c.args.stamp c.requires.reads c.requires.writes c.unwrap_or_default-twrite.result
    (version_or vs c.args.entry.item c.args.found f _ (λ v p. search rules) _ c.unwrap_or_default-twrite.ensures)
    c.stamp_of-writer.result c.stamp_of-reader.result
    (c.stamp_of-writer.ensures ∙ ap (option_map write_tells.stamp) c.oldest_above.ensures)
    (c.stamp_of-reader.ensures ∙ ap (option_map read_tells.stamp) c.youngest.ensures))
