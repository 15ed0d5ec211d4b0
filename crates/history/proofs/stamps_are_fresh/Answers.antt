use Rattle.history.proofs.Stamps.{stamps_fresh}
use Rattle.history.proofs.stamps_are_fresh.Goals as goal

pub returns : goal.returns
returns c = stamps_fresh
