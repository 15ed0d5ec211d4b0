use Rattle.std.proofs.Common.{◌+◌, ◌*◌, ltb, length, sym, ap, ◌∙◌}
use Rattle.std.proofs.lemmas.Bool.{cond-true}
use Rattle.store.proofs.LogLaws.{Shrunk, good_from, from_good, shrinks}
use Rattle.store.proofs.logs.Log.make_room.Goals as goal

-- what the compaction leaves
shrunk : (c : goal.After-compact) → Shrunk c.args.self.now.records.area.bytes.now c.compact.new.self.area.bytes.now c.args.self.now.count c.compact.new.self.used
shrunk c =
    let held = c.args.self.now.good c.requires in
    shrinks c.args.self.now.records.area.bytes.now c.compact.new.self.area.bytes.now c.args.self.now.count c.args.self.now.records.used c.compact.new.self.used
    (good_from _ _ held.0) held.1 c.compact.ensures.bytes c.compact.ensures.used

pub invariant_of-self-clause-good : goal.invariant_of-self-clause-good
invariant_of-self-clause-good c = λ _. (from_good _ _ (shrunk c).good, (shrunk c).counts)

pub returns-then-is_full-clause-bytes : goal.returns-then-is_full-clause-bytes
returns-then-is_full-clause-bytes c =
    let b = c.args.self.now.records.area.bytes.now in
    let held = c.args.self.now.good c.requires in
    (shrunk c.before).is
    ∙ sym (cond-true _ _ b (ap (λ n. ltb (length b) (25 * (n + 1))) (sym held.1) ∙ sym c.is_full.ensures ∙ c.if-is_full.true))

pub returns-then-is_full-clause-versions : goal.returns-then-is_full-clause-versions
returns-then-is_full-clause-versions c = (shrunk c.before).same

pub returns-then-is_full-clause-room : goal.returns-then-is_full-clause-room
returns-then-is_full-clause-room c = (shrunk c.before).room
