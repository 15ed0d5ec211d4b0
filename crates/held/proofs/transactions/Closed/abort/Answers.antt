use Rattle.std.proofs.Common.{Err, sym, rules}
use Rattle.service.specs.declared.refusals.Refusal.TheVariants.{WrongState}
use Rattle.service.specs.declared.calls.Call.TheVariants.{Abort}
use Rattle.held.specs.Calls.{without}
use Rattle.held.specs.Held.{is_abortable, only, or_back}
use Rattle.held.proofs.Made.{held_off, single_through}
use Rattle.held.proofs.transactions.Closed.abort.Goals as goal

pub returns-then-not-is_abortable : goal.returns-then-not-is_abortable
returns-then-not-is_abortable g c =
    held_off g.S.Store.versions c.args.service.now (λ s. is_abortable s c.args.self.tool c.args.self.stamp) (Err (WrongState, c.args.self)) (only (Abort c.args.self.tool) (λ a. or_back c.args.self (without a))) (sym c.if-not-is_abortable.ensures)

pub returns : goal.returns
returns g c =
    single_through g.S.Store.versions c.args.service.now c.abort.new.self (λ s. is_abortable s c.args.self.tool c.args.self.stamp) (Err (WrongState, c.args.self)) (Abort c.args.self.tool) (λ a. or_back c.args.self (without a)) _ _
    (sym c.if-not-is_abortable.ensures) c.abort.ensures (search rules)
