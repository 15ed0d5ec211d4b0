use Rattle.std.proofs.Common.{List, ap, ◌∙◌}
use Rattle.service.specs.declared.tools.Entry.{Entry}
use Rattle.service.specs.declared.tools.Stand.TheVariants.{Settled}
use Rattle.service.specs.Service.{entered, unless_held}
use Rattle.service.specs.Desks.{seat_of}
use Rattle.service.proofs.Places.{stood_at}
use Rattle.service.proofs.tools.Tool.settle.Goals as goal

pub returns : goal.returns
returns c i s t h =
    c.rest.ensures
    ∙ ap (λ (es : List Entry). unless_held (entered (seat_of c.args.self.now) es)) (stood_at c.args.self.now.entries.items i c.args.k h c.deref_mut.result.now c.deref_mut.ensures.value Settled)
