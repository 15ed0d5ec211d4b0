use Rattle.std.proofs.Common.{rules}
use Rattle.frame.proofs.ReplyTrips.{refusal_is, refusal_none}
use Rattle.frame.proofs.replies.read_answer.Goals as goal

pub returns-in_ok-try_from-in_default : goal.returns-in_ok-try_from-in_default
returns-in_ok-try_from-in_default c =
    let is = refusal_is c.args.answer c.in_ok-try_from-in_default.field-0 c.in_ok-try_from-in_default.ensures in
    search rules

pub returns-in_err-try_from-in_default : goal.returns-in_err-try_from-in_default
returns-in_err-try_from-in_default c =
    let none = refusal_none c.args.answer c.in_err-try_from-in_default.ensures.1 in
    search rules
