use Rattle.std.proofs.lemmas.Result.{err_from_is_err_and}
use Rattle.held.proofs.Whole.{certifies_more, certifies_not, certifies_all_made}
use Rattle.held.proofs.steps.certify_each.Goals as goal

pub loop-item-preserved : goal.loop-item-preserved
loop-item-preserved g c =
    certifies_more g.S.Store.versions c.args.service.now c.loop-item.service c.args.tool c.args.items.now c.loop-item.item-index c.loop-item.invariant c.certify.new.self _ c.loop-item-test.true
    c.in_ok-certify.ensures

pub returns-in_err-certify : goal.returns-in_err-certify
returns-in_err-certify g c =
    let p = err_from_is_err_and c.from_residual.result c.from_residual.ensures.1 in
    rw (p.1, p.2)
    (certifies_not g.S.Store.versions c.args.service.now c.loop-item.service c.args.tool c.args.items.now c.loop-item.item-index c.loop-item.invariant c.certify.new.self _
    c.loop-item-test.true c.in_err-certify.ensures)

pub returns : goal.returns
returns g c = certifies_all_made g.S.Store.versions c.args.service.now c.loop-item.service c.args.tool c.args.items.now c.loop-item.item-index c.loop-item.invariant c.loop-item-test.false
