use Rattle.std.proofs.Common.{List, ap}
use Rattle.service.specs.declared.tools.Entry.{Entry}
use Rattle.service.specs.declared.tools.Stand.TheVariants.{Held}
use Rattle.service.specs.Service.{entered}
use Rattle.service.specs.Desks.{seat_of}
use Rattle.service.proofs.Places.{stood_at}
use Rattle.service.proofs.tools.Tool.hold.Goals as goal

pub returns : goal.returns
returns c i s t h = ap (λ (es : List Entry). entered (seat_of c.args.self.now) es) (stood_at c.args.self.now.entries.items i c.args.k h c.deref_mut.result.now c.deref_mut.ensures.value Held)
