use Rattle.std.proofs.Common.{◌≡◌, List, take, drop}
use Rattle.store.specs.declared.Version.{Version}
use Rattle.service.specs.Services.{state_of}
use Rattle.history.specs.History.{History}
use Rattle.history.specs.Runs.{Run, onward}
use Rattle.history.proofs.runs.resume.Given as goal

abbrev pub invariant-loop-i : goal.invariant-loop-i
invariant-loop-i g l =
    (drop l.i l.answers ≡ drop l.i l.initial.answers)
    × ((vs : List Version) (h : History) → Run vs h (state_of g.S.Store.versions l.initial.service) → Run vs (onward (take l.i l.calls) (take l.i l.answers) h) (state_of g.S.Store.versions l.service))
