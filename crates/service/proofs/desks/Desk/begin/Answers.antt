use Rattle.std.proofs.Common.{Ok, sym, ap, arith}
use Rattle.service.specs.declared.calls.Answer.TheVariants.{Done}
use Rattle.service.specs.declared.calls.Call.TheVariants.{Begin}
use Rattle.service.specs.Service.{Seat}
use Rattle.service.specs.Desks.{state}
use Rattle.service.proofs.Acts.{acts_plain}
use Rattle.service.proofs.desks.Desk.begin.Goals as goal

pub returns-clause-acts : goal.returns-clause-acts
returns-clause-acts c vs f =
    acts_plain vs c.args.self.now c.index.result c.index-self-index.result (omega arith) (Begin c.args.tool.number) (sym c.index.ensures) tt (Ok Done) c.plain.result
    c.plain.ensures.told c.plain.ensures.same c.begin.new.self
    (ap (λ (x : Seat). (Ok Done, x)) (sym (c.begin.ensures (state vs c.args.self.now) c.args.tool.number)))
