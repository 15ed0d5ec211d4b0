use Rattle.std.proofs.Common.{[], sym, subst}
use Rattle.service.specs.Service.{State}
use Rattle.history.specs.Runs.{Run, started}
use Rattle.history.proofs.runs.begin.Goals as goal

pub returns : goal.returns
returns g c = subst (λ (s : State). Run (g.S.Store.versions c.args.store) [] s) (sym c.start.ensures.starts) started
