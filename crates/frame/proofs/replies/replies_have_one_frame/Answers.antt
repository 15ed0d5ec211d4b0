use Rattle.frame.proofs.ReplyTrips.{replies_one_frame}
use Rattle.frame.proofs.replies.replies_have_one_frame.Goals as goal

pub returns : goal.returns
returns c = replies_one_frame
