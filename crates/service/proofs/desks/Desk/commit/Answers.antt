use Rattle.std.proofs.Common.{sym, arith}
use Rattle.service.specs.declared.calls.Call.TheVariants.{Commit}
use Rattle.service.specs.Desks.{state}
use Rattle.service.proofs.Acts.{acts_plain}
use Rattle.service.proofs.desks.Desk.commit.Goals as goal

pub returns-clause-acts : goal.returns-clause-acts
returns-clause-acts c vs f =
    acts_plain vs c.args.self.now c.index.result c.index-self-index.result (omega arith) (Commit c.args.tool.number) (sym c.index.ensures) tt c.commit.result c.plain.result
    c.plain.ensures.told c.plain.ensures.same c.commit.new.self (c.commit.ensures (state vs c.args.self.now) c.args.tool.number)
