use Rattle.held.proofs.Whole.{settles_more, settles_all_made}
use Rattle.held.proofs.steps.settle_each.Goals as goal

pub loop-item-preserved : goal.loop-item-preserved
loop-item-preserved g c =
    settles_more g.S.Store.versions c.args.service.now c.loop-item.service c.settle.new.self c.args.tool c.args.items.now c.loop-item.item-index _ c.loop-item-test.true c.settle.ensures
    c.loop-item.invariant

pub returns : goal.returns
returns g c = settles_all_made g.S.Store.versions c.args.service.now c.loop-item.service c.args.tool c.args.items.now c.loop-item.item-index c.loop-item-test.false c.loop-item.invariant
