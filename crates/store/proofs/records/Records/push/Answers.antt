use Rattle.std.proofs.Common.{◌*◌, get_or, None, ap, ◌∙◌}
use Rattle.store.proofs.Places.{over_new}
use Rattle.store.proofs.RecordLaws.{Pushed, pushed}
use Rattle.store.proofs.records.Records.push.Goals as goal

-- what the new record leaves
grown : (c : goal.After-note) → Pushed c.write.new.self.bytes.now c.args.self.now.latest c.args.item c.args.self.now.used
grown c =
    pushed c.args.self.now.area.bytes.now _ c.args.self.now.latest c.args.item c.args.self.now.used c.args.version
    c.requires.room c.requires.there c.args.self.now.wide c.args.self.now.sound c.args.self.now.index
    (over_new (25 * c.args.self.now.used) c.args.self.now.area.bytes.now c.write.ensures c.encode.ensures)

pub invariant_of-self-clause-sound : goal.invariant_of-self-clause-sound
invariant_of-self-clause-sound c = (grown c).sounds

pub invariant_of-self-clause-index : goal.invariant_of-self-clause-index
invariant_of-self-clause-index c = λ i below. ap (λ l. get_or l i None) c.note.ensures ∙ (grown c).index i below

pub returns-clause-bytes : goal.returns-clause-bytes
returns-clause-bytes c = over_new (25 * c.args.self.now.used) c.args.self.now.area.bytes.now c.write.ensures c.encode.ensures
