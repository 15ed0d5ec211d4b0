use Rattle.std.proofs.Common.{List, sym, refl, ap, ◌∙◌}
use Rattle.std.proofs.lemmas.Bool.{ltb-true}
use Rattle.service.specs.declared.tools.Entry.{Entry}
use Rattle.service.specs.Entries.{read_from}
use Rattle.service.specs.Service.{entered}
use Rattle.service.specs.Desks.{seat_of}
use Rattle.service.proofs.Places.{index_none}
use Rattle.service.proofs.Replies.{got, read_first}
use Rattle.service.proofs.tools.Tool.read.Goals as goal

pub returns : goal.returns
returns c s t h =
    let none = index_none 0 c.args.item c.args.self.now.entries.items (sym c.in_default.ensures.place) in
    let g = got s.versions c.args.item c.args.version h in
    read_first s (seat_of c.args.self.now) t c.args.item g.0 c.args.version g.1 none.0 (ltb-true _ _ (sym c.in_ok-push.ensures.room)) (seat_of c.push.new.self)
    (c.in_ok-push.ensures.pushed ∙ ap (λ (l : List Entry). entered (seat_of c.args.self.now) l) (sym (none.1 (read_from c.args.item c.args.version) refl)))
