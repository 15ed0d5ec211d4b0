use Rattle.std.proofs.Common.{rules}
use Rattle.service.specs.Desks.{seat_of}
use Rattle.service.specs.Service.{fresh}
use Rattle.service.proofs.Lists.{constant}
use Rattle.service.proofs.serving.idle_tools.Goals as goal

pub returns : goal.returns
returns c = constant seat_of (fresh c.args.last) 16 c.from_fn.result c.from_fn.ensures.items.long (λ i z l. let w = c.from_fn.ensures.items.at i z l in search rules)
