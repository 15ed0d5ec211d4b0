use Rattle.held.proofs.Whole.{settled, not_settled}
use Rattle.held.proofs.steps.finish.Goals as goal

pub returns-in_err-call-clause-made : goal.returns-in_err-call-clause-made
returns-in_err-call-clause-made g c = not_settled g.S.Store.versions c.args.service.now c.call.new.self c.args.call _ c.in_err-call.ensures

pub returns-clause-made : goal.returns-clause-made
returns-clause-made g c =
    settled g.S.Store.versions c.args.service.now c.call.new.self c.settle_held.new.service c.args.call _ c.tool.result c.in_ok-call.ensures c.tool.ensures c.settle_held.ensures
