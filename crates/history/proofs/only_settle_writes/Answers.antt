use Rattle.history.proofs.Laws.{only_settle_writes}
use Rattle.history.proofs.only_settle_writes.Goals as goal

pub returns : goal.returns
returns c = only_settle_writes
