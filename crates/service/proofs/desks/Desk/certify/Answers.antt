use Rattle.std.proofs.Common.{◌≡◌, [], set, Some, Err, sym, refl, ap, ◌∙◌, arith}
use Rattle.service.specs.declared.calls.Call.TheVariants.{Certify}
use Rattle.service.specs.declared.tools.Tool.{Tool}
use Rattle.service.specs.Entries.{index_from}
use Rattle.service.specs.declared.tools.Phase.TheVariants.{Failed}
use Rattle.service.specs.Service.{State, Seat, reseat, phased}
use Rattle.service.specs.Desks.{seat_of, state}
use Rattle.service.proofs.Acts.{reseated}
use Rattle.service.proofs.Items.{own_seat, present_at, same_tool, moved, settles}
use Rattle.service.proofs.Claims.{judged_err, judged_ok, certify_rejected, certify_honoured, certify_reads, certify_writes}
use Rattle.service.proofs.Lawful.{reads_room, writes_room}
use Rattle.service.proofs.desks.Desk.certify.Goals as goal

pub returns-in-Err-clause-acts : goal.returns-in-Err-clause-acts
returns-in-Err-clause-acts c vs f =
    let d = c.args.self.now in
    let t = c.args.tool.number in
    let i = c.args.item in
    let r = c.in-Err.refusal in
    let z = c.index-self-index.result in
    let y = c.index-self-index-in-Err.result in
    let seen : c.find.result ≡ Some (c.in_ok-k.k, c.in_ok-k.entry) = grind arith in
    let present = present_at vs d t c.index.result z c.index.ensures (omega arith) i c.in_ok-k.entry (rw seen at c.find.ensures.entry) in
    let its = rw seen at c.find.ensures.own in
    let own = own_seat vs d t c.index.result z c.index.ensures (omega arith) in
    certify_rejected (state vs d) t i c.in_ok-k.entry present _ (ap (λ (x : Seat). x.stamp) own) (sym c.if-is_held.ensures) r (judged_err _ r (rw its at (c.in-Err.ensures vs (rw its f))))
    ∙ (ap (λ (x : Seat). (Err r, reseat (state vs d) t (phased x Failed))) (own_seat vs d t c.index-in-Err.result y c.index-in-Err.ensures (omega arith))
    ∙ (ap (λ (x : Seat). (Err r, reseat (state vs d) t x)) (sym c.fail.ensures)
    ∙ ap (λ (n : State). (Err r, n)) (ap (λ (n : _). reseat (state vs d) n (seat_of c.fail.new.self)) (sym c.index-in-Err.ensures) ∙ sym (reseated vs d c.index-in-Err.result y (omega arith) c.fail.new.self))))

pub returns-clause-acts : goal.returns-clause-acts
returns-clause-acts c vs f =
    let d = c.args.self.now in
    let m = c.enqueue.new.self in
    let t = c.args.tool.number in
    let i = c.args.item in
    let z = c.index-self-index.result in
    let seen : c.find.result ≡ Some (c.in_ok-k.k, c.in_ok-k.entry) = grind arith in
    let present = present_at vs d t c.index.result z c.index.ensures (omega arith) i c.in_ok-k.entry (rw seen at c.find.ensures.entry) in
    let its = rw seen at c.find.ensures.own in
    let stamp = ap (λ (x : Seat). x.stamp) (own_seat vs d t c.index.result z c.index.ensures (omega arith)) in
    certify_honoured (state vs d) t i c.in_ok-k.entry present _ stamp (sym c.if-is_held.ensures) (judged_ok _ c.in_default.field-0 (rw its at (c.in_default.ensures vs (rw its f))))
    ∙ settles vs _ (record { tools = set m.tools c.index-2.result c.hold.new.self; reads = m.reads; writes = m.writes }) c.plain.result _ c.plain.ensures.told c.plain.ensures.same
    (moved vs vs d m (Certify t i) c.index-2.result c.index-self-index-2.result c.hold.new.self c.index-2.ensures (omega arith) c.enqueue.ensures.tools
    (c.hold.ensures i (state vs d) t
    (ap (λ (x : Tool). index_from 0 i (seat_of x).entries) (same_tool d m c.index-2.result c.index.result c.index-self-index-2.result z (c.index-2.ensures ∙ sym c.index.ensures) (omega arith) c.enqueue.ensures.tools)
    ∙ sym (rw seen at c.find.ensures.place))) refl
    (certify_reads (state vs d) t i c.in_ok-k.entry present _ stamp ∙ sym (rw its at c.enqueue.ensures.reads))
    (certify_writes (state vs d) t i c.in_ok-k.entry present _ stamp ∙ sym (rw its at c.enqueue.ensures.writes)))

pub enqueue-requires : goal.enqueue-requires
enqueue-requires c =
    let d = c.args.self.now in
    let t = c.args.tool.number in
    let i = c.args.item in
    let seen : c.find.result ≡ Some (c.in_ok-k.k, c.in_ok-k.entry) = grind arith in
    let f = present_at [] d t c.index.result c.index-self-index.result c.index.ensures (omega arith) i c.in_ok-k.entry (rw seen at c.find.ensures.entry) in
    record {
      reads = reads_room d c.requires t i c.in_ok-k.entry c.args.tool.served f (sym c.if-is_held.ensures);
      writes = writes_room d c.requires t i c.in_ok-k.entry c.args.tool.served f (sym c.if-is_held.ensures);
    }
