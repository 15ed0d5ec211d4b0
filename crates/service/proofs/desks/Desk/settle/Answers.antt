use Rattle.std.proofs.Common.{◌≡◌, Some, Ok, sym, ap, ◌∙◌, arith}
use Rattle.service.specs.declared.calls.Answer.TheVariants.{Done}
use Rattle.service.specs.declared.calls.Call.TheVariants.{Settle}
use Rattle.service.specs.declared.tools.Tool.{Tool}
use Rattle.service.specs.Entries.{index_from}
use Rattle.service.specs.Service.{State, Seat}
use Rattle.service.specs.Desks.{seat_of, state}
use Rattle.service.proofs.Items.{own_seat, present_at, same_tool, moved}
use Rattle.service.proofs.Claims.{settle_held, settle_reads, settle_writes, settle_versions}
use Rattle.service.proofs.desks.Desk.settle.Goals as goal

pub returns-clause-acts : goal.returns-clause-acts
returns-clause-acts c vs f =
    let d = c.args.self.now in
    let m = c.dequeue.new.self in
    let t = c.args.tool.number in
    let i = c.args.item in
    let z = c.index-self-index.result in
    let seen : c.find.result ≡ Some (c.in_ok-k.k, c.in_ok-k.entry) = grind arith in
    let present = present_at vs d t c.index.result z c.index.ensures (omega arith) i c.in_ok-k.entry (rw seen at c.find.ensures.entry) in
    let its = rw seen at c.find.ensures.own in
    let own = own_seat vs d t c.index.result z c.index.ensures (omega arith) in
    let stamp = ap (λ (x : Seat). x.stamp) own in
    settle_held (state vs d) t i c.in_ok-k.entry present (sym c.if-not-is_held.ensures)
    ∙ ap (λ (n : State). (Ok Done, n))
    (moved vs _ d m (Settle t i) c.index-2.result c.index-self-index-2.result c.settle.new.self c.index-2.ensures (omega arith) c.dequeue.ensures.tools
    (c.settle.ensures i (state vs d) t
    (ap (λ (x : Tool). index_from 0 i (seat_of x).entries) (same_tool d m c.index-2.result c.index.result c.index-self-index-2.result z (c.index-2.ensures ∙ sym c.index.ensures) (omega arith) c.dequeue.ensures.tools)
    ∙ sym (rw seen at c.find.ensures.place)))
    (settle_versions (state vs d) t i c.in_ok-k.entry present _ stamp _ (ap (λ (x : Seat). x.phase) own) ∙ sym (rw its at (c.settlement-change.ensures.value vs (rw its f))))
    (settle_reads (state vs d) t i c.in_ok-k.entry present _ stamp ∙ sym (rw its at c.dequeue.ensures.reads))
    (settle_writes (state vs d) t i c.in_ok-k.entry present _ stamp ∙ sym (rw its at c.dequeue.ensures.writes)))
