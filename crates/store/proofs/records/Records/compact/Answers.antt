use Rattle.std.proofs.Common.{◌≡◌, ℕ, ◌+◌, ◌*◌, List, get_or, None, sym, ap, ◌∙◌, arith}
use Rattle.store.specs.Bytes.{part, over}
use Rattle.store.specs.Log.{last_place, item_of, record_at}
use Rattle.store.proofs.Compacts.{moved_is, pass_at, pass_drop, pass_keep}
use Rattle.store.proofs.RecordLaws.{item_below}
use Rattle.store.proofs.records.Records.compact.Goals as goal
use Rattle.store.proofs.records.Records.compact.Goals.{then-names, else-names}

pub bounds-latest-item_of : goal.bounds-latest-item_of
bounds-latest-item_of c =
    let old = c.args.self.now.area.bytes.now in
    let place = c.loop-place.place in
    let item = c.item_of.ensures ∙ ap item_of (c.record_at.ensures ∙ moved_is old c.loop-place.area.bytes.now place c.loop-place.invariant.rest) in
    omega (arith, item, item_below old 256 c.args.self.now.used place c.args.self.now.sound c.loop-place-test.true)

-- what the index says of the record that the loop has come to
indexed :
    (c : goal.Joined-names)
    → get_or c.args.self.now.latest c.item_of.result None
    ≡ last_place c.args.self.now.area.bytes.now c.args.self.now.used (item_of (record_at c.args.self.now.area.bytes.now c.loop-place.place))
indexed c =
    let old = c.args.self.now.area.bytes.now in
    let place = c.loop-place.place in
    ap (λ k. get_or c.args.self.now.latest k None)
    (c.item_of.ensures ∙ ap item_of (c.record_at.ensures ∙ moved_is old c.loop-place.area.bytes.now place c.loop-place.invariant.rest))
    ∙ c.args.self.now.index _ (item_below old 256 c.args.self.now.used place c.args.self.now.sound c.loop-place-test.true)

pub loop-place-preserved : goal.loop-place-preserved
loop-place-preserved c =
    let old : List ℕ = c.args.self.now.area.bytes.now in
    let bytes : List ℕ = c.loop-place.area.bytes.now in
    let n : ℕ = c.args.self.now.used in
    let place : ℕ = c.loop-place.place in
    let end : ℕ = c.loop-place.end in
    elim c.if-names.branch [
      | then-names w ↦
          pass_at old (over (25 * end) (part (25 * place) 25 bytes) bytes) c.if-names.area.bytes.now n (place + 1) (end + 1) c.if-names.end
          (pass_keep old bytes n place end c.loop-place.invariant c.loop-place-test.true c.args.self.now.fits (sym (indexed c) ∙ w.if-names.ensures))
          (ap (λ a. a.bytes.now) w.area-is ∙ w.shift.ensures)
          w.end-is
      | else-names w ↦
          pass_at old bytes c.if-names.area.bytes.now n (place + 1) end c.if-names.end
          (pass_drop old bytes n place end c.loop-place.invariant c.loop-place-test.true (λ is. w.if-names.ensures (indexed c ∙ is)))
          (ap (λ a. a.bytes.now) w.area-is)
          w.end-is
    ]
