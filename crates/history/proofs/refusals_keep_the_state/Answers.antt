use Rattle.history.proofs.Laws.{refusals_keep}
use Rattle.history.proofs.refusals_keep_the_state.Goals as goal

pub returns : goal.returns
returns c = refusals_keep
