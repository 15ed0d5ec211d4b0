use Rattle.std.proofs.Common.{sym, arith}
use Rattle.service.specs.declared.calls.Call.TheVariants.{Write}
use Rattle.service.specs.Desks.{state}
use Rattle.service.proofs.Acts.{acts_plain}
use Rattle.service.proofs.Replies.{known}
use Rattle.service.proofs.desks.Desk.write.Goals as goal

pub returns-clause-acts : goal.returns-clause-acts
returns-clause-acts c vs f =
    acts_plain vs c.args.self.now c.index.result c.index-self-index.result (omega arith) (Write c.args.tool.number c.args.item c.args.value) (sym c.index.ensures) tt c.write.result c.plain.result
    c.plain.ensures.told c.plain.ensures.same c.write.new.self (c.write.ensures (state vs c.args.self.now) c.args.tool.number (known vs c.args.item c.args.found f c.if-is_none.ensures))
