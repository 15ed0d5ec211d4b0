use Rattle.history.proofs.Shortcuts.{shortcuts_break}
use Rattle.history.proofs.shortcuts_break_the_order.Goals as goal

pub returns : goal.returns
returns c = shortcuts_break
