use Rattle.std.proofs.Common.{◌≡◌, Err, sym, ap, ◌∙◌, rules}
use Rattle.service.specs.declared.refusals.Refusal.TheVariants.{WrongState}
use Rattle.service.specs.declared.tools.Phase.TheVariants.{Closed}
use Rattle.service.specs.Views.{is_under}
use Rattle.held.specs.Held.{or_back, settles_all}
use Rattle.held.proofs.Made.{held_off, let_through}
use Rattle.held.proofs.transactions.Grant.spend.Goals as goal

pub returns-then-not-is_closed : goal.returns-then-not-is_closed
returns-then-not-is_closed g c =
    held_off g.S.Store.versions c.args.service.now (λ s. is_under Closed s c.args.self.tool c.args.self.stamp) (Err (WrongState, c.args.self)) (settles_all c.args.self c.args.call) (sym c.if-not-is_closed.ensures)

pub returns : goal.returns
returns g c =
    let back : c.map_err.result ≡ or_back c.args.self c.finish.result = search rules in
    let_through g.S.Store.versions c.args.service.now (λ s. is_under Closed s c.args.self.tool c.args.self.stamp) (Err (WrongState, c.args.self)) (settles_all c.args.self c.args.call) c.finish.new.service _
    (sym c.if-not-is_closed.ensures) c.finish.ensures.made (back ∙ ap (or_back c.args.self) c.finish.ensures.answer)
