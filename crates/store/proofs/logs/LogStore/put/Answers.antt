use Rattle.std.proofs.Common.{set, sym, ap, ◌∙◌, arith}
use Rattle.std.proofs.lemmas.Bool.{cond-true, lt-ltb}
use Rattle.store.specs.Log.{appended}
use Rattle.store.proofs.LogLaws.{Grown, good_from, from_good, grows}
use Rattle.store.proofs.logs.LogStore.put.Goals as goal

-- what the new record leaves
grown : (c : goal.After-push) → Grown c.make_room.new.self.records.area.bytes.now c.push.new.self.area.bytes.now c.make_room.new.self.count c.args.item c.make_room.new.self.records.used c.args.version
grown c =
    let items = c.make_room.ensures.items in
    let held = c.make_room.new.self.good (omega arith) in
    grows c.make_room.new.self.records.area.bytes.now c.push.new.self.area.bytes.now c.make_room.new.self.count c.args.item c.make_room.new.self.records.used c.args.version
    (good_from _ _ held.0) held.1 (omega arith) c.make_room.ensures.room
    (record { value = omega arith; twrite = omega arith; tread = omega arith }) c.push.ensures.bytes

pub invariant_of-self-clause-good : goal.invariant_of-self-clause-good
invariant_of-self-clause-good c = λ _. (from_good _ _ (grown c).good, c.push.ensures.used ∙ (grown c).counts)

pub returns-then-item-self-clause-versions : goal.returns-then-item-self-clause-versions
returns-then-item-self-clause-versions c =
    (grown c.before).versions ∙ ap (λ l. set l c.args.item c.args.version) c.make_room.ensures.versions

pub returns-then-item-self-clause-bytes : goal.returns-then-item-self-clause-bytes
returns-then-item-self-clause-bytes c =
    (grown c.before).is
    ∙ ap (appended c.args.item c.args.version) c.make_room.ensures.bytes
    ∙ sym (cond-true _ _ _ (lt-ltb _ _ c.if-item-self.true))
