use Rattle.std.proofs.Common.{sym, arith}
use Rattle.service.specs.declared.calls.Call.TheVariants.{Close}
use Rattle.service.specs.Desks.{state}
use Rattle.service.proofs.Acts.{acts_plain}
use Rattle.service.proofs.desks.Desk.close.Goals as goal

pub returns-clause-acts : goal.returns-clause-acts
returns-clause-acts c vs f =
    acts_plain vs c.args.self.now c.index.result c.index-self-index.result (omega arith) (Close c.args.tool.number c.args.tick) (sym c.index.ensures) tt c.close.result c.plain.result
    c.plain.ensures.told c.plain.ensures.same c.close.new.self (c.close.ensures (state vs c.args.self.now))
