use Rattle.std.proofs.Common.{List, sym, refl, ap, ◌∙◌}
use Rattle.std.proofs.lemmas.Bool.{ltb-true}
use Rattle.service.specs.declared.tools.Entry.{Entry}
use Rattle.service.specs.Entries.{blank, written_to}
use Rattle.service.specs.Service.{entered}
use Rattle.service.specs.Desks.{seat_of}
use Rattle.service.proofs.Lists.{rewritten}
use Rattle.service.proofs.Places.{index_none, enter_at}
use Rattle.service.proofs.Entries.{find_item}
use Rattle.service.proofs.Replies.{write_again, write_first}
use Rattle.service.proofs.tools.Tool.write.Goals as goal

pub returns-in-Some : goal.returns-in-Some
returns-in-Some c s t h =
    let es = c.args.self.now.entries.items in
    let here = c.in-Some.entry in
    let f = sym c.in-Some.ensures.entry in
    write_again s (seat_of c.args.self.now) t c.args.item h c.args.value here f _
    (ap (λ (l : List Entry). entered (seat_of c.args.self.now) l)
    (rewritten es c.deref_mut.result.now c.in-Some.k (written_to here c.args.value) c.deref_mut.ensures.value
    ∙ enter_at es c.args.item c.in-Some.k (sym c.in-Some.ensures.place) (written_to here c.args.value) (find_item c.args.item here es f)))

pub returns : goal.returns
returns c s t h =
    let none = index_none 0 c.args.item c.args.self.now.entries.items (sym c.in_default.ensures.place) in
    write_first s (seat_of c.args.self.now) t c.args.item h c.args.value none.0 (ltb-true _ _ (sym c.in_ok-push.ensures.room)) (seat_of c.push.new.self)
    (c.in_ok-push.ensures.pushed ∙ ap (λ (l : List Entry). entered (seat_of c.args.self.now) l) (sym (none.1 (written_to (blank c.args.item) c.args.value) refl)))
