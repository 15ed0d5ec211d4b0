use Rattle.std.proofs.Common.{◌≡◌, Some, sym, ◌∙◌, arith}
use Rattle.service.specs.declared.calls.Call.TheVariants.{Read}
use Rattle.service.specs.Desks.{state}
use Rattle.service.proofs.Acts.{acts_plain}
use Rattle.service.proofs.desks.Desk.read.Goals as goal

pub returns-clause-acts : goal.returns-clause-acts
returns-clause-acts c vs f =
    let known : c.args.found ≡ Some c.in_ok-version.version = grind arith in
    acts_plain vs c.args.self.now c.index.result c.index-self-index.result (omega arith) (Read c.args.tool.number c.args.item) (sym c.index.ensures) tt c.read.result c.plain.result
    c.plain.ensures.told c.plain.ensures.same c.read.new.self (c.read.ensures (state vs c.args.self.now) c.args.tool.number (f ∙ known))
