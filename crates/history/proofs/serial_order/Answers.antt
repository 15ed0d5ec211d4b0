use Rattle.history.proofs.Whole.{serial_order}
use Rattle.history.proofs.serial_order.Goals as goal

pub returns : goal.returns
returns c = serial_order
