use Rattle.history.proofs.Laws.{queues_hold}
use Rattle.history.proofs.queues_never_full.Goals as goal

pub returns : goal.returns
returns c = queues_hold
