use Rattle.frame.proofs.RoundTrips.{requests_one_frame}
use Rattle.frame.proofs.requests.requests_have_one_frame.Goals as goal

pub returns : goal.returns
returns c = requests_one_frame
