use Rattle.std.proofs.Common.{Bool, cond, Err, sym, refl, ap}
use Rattle.service.specs.declared.refusals.Refusal.TheVariants.{WrongState}
use Rattle.service.specs.declared.tools.Phase.TheVariants.{Closed}
use Rattle.service.specs.Views.{is_under}
use Rattle.held.specs.declared.transactions.Uncertified.TheVariants.{Rejected, Refused}
use Rattle.held.specs.Held.{certifying}
use Rattle.held.proofs.Made.{held_off}
use Rattle.held.proofs.Whole.{undone, left_so}
use Rattle.held.proofs.transactions.Closed.certify_all.Goals as goal

pub returns-then-not-is_closed : goal.returns-then-not-is_closed
returns-then-not-is_closed g c =
    held_off g.S.Store.versions c.args.service.now (λ s. is_under Closed s c.args.self.tool c.args.self.stamp) (Err (Refused WrongState c.args.self)) (certifying c.args.self) (sym c.if-not-is_closed.ensures)

pub returns-in-Ok : goal.returns-in-Ok
returns-in-Ok g c =
    left_so g.S.Store.versions c.args.service.now c.certify_bare.new.service c.args.self (sym c.if-not-is_closed.ensures) _ c.in-Ok.ensures _ refl refl

pub returns-in-Err : goal.returns-in-Err
returns-in-Err g c =
    let t = c.if-is_rejection.ensures in
    undone g.S.Store.versions c.args.service.now c.certify_bare.new.service c.args.self (sym c.if-not-is_closed.ensures) _ c.in-Err.ensures _
    (ap (λ (b : Bool). Err (cond b (Rejected c.in-Err.refusal) (Refused c.in-Err.refusal c.args.self))) t) (sym t) c.undo.new.service c.undo.ensures

pub returns-in-Err-2 : goal.returns-in-Err-2
returns-in-Err-2 g c =
    let t = c.if-is_rejection.ensures in
    left_so g.S.Store.versions c.args.service.now c.certify_bare.new.service c.args.self (sym c.if-not-is_closed.ensures) _ c.in-Err.ensures _
    (ap (λ (b : Bool). Err (cond b (Rejected c.in-Err.refusal) (Refused c.in-Err.refusal c.args.self))) t) (sym t)
