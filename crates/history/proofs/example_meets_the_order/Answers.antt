use Rattle.history.proofs.Example.{example_meets}
use Rattle.history.proofs.example_meets_the_order.Goals as goal

pub returns : goal.returns
returns c = example_meets
