use Rattle.std.proofs.Common.{subst, arith}
use Rattle.service.specs.Services.{state_of}
use Rattle.history.specs.Runs.{Run}
use Rattle.history.specs.History.{History}
use Rattle.history.proofs.Onward.{one_more, rest_stays, onward_short}
use Rattle.history.proofs.Whole.{serial_order}
use Rattle.history.proofs.runs.resume.Goals as goal

pub loop-i-preserved : goal.loop-i-preserved
loop-i-preserved g c = (
  rest_stays c.loop-i.answers c.args.answers.now c.loop-i.i c.make.new.answer c.loop-i.invariant.0,
  λ vs h r. one_more c.args.calls.now c.loop-i.answers c.loop-i.i (let n = c.min-count.ensures in omega arith) (let n = c.min-count.ensures in omega arith)
      vs h (state_of g.S.Store.versions c.loop-i.service) (state_of g.S.Store.versions c.make.new.service) c.make.new.answer _
      (c.loop-i.invariant.1 vs h r) c.make.ensures,
)

pub returns-clause-runs : goal.returns-clause-runs
returns-clause-runs g c = λ vs h r.
    let run = subst (λ (x : History). Run vs x (state_of g.S.Store.versions c.loop-i.service))
    (onward_short c.args.calls.now c.loop-i.answers c.loop-i.i h (let n = c.min-count.ensures in let k = c.loop-i.auto.answers in omega arith)) (c.loop-i.invariant.1 vs h r)
    in
    record { run = run; law = serial_order vs _ _ run }
