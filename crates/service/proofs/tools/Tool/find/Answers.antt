use Rattle.std.proofs.Common.{Some, List, get_or, sym, ap, ◌∙◌}
use Rattle.service.specs.declared.tools.Entry.{Entry}
use Rattle.service.specs.Entries.{blank}
use Rattle.service.proofs.Places.{index_none, found_at, item_at}
use Rattle.service.proofs.tools.Tool.find.Goals as goal

pub returns-in_err-k-clause-entry : goal.returns-in_err-k-clause-entry
returns-in_err-k-clause-entry c = rw c.from_residual.ensures (sym (index_none 0 c.args.item c.args.self.now.entries.items (sym c.in_err-k.ensures.value)).0)

pub returns-clause-entry : goal.returns-clause-entry
returns-clause-entry c =
    ap (λ (es : List Entry). Some (get_or es c.in_ok-k.k (blank 0))) c.deref.ensures.0
    ∙ sym (found_at c.args.self.now.entries.items c.args.item c.in_ok-k.k (sym c.in_ok-k.ensures.value))

pub returns-clause-own : goal.returns-clause-own
returns-clause-own c =
    rw c.deref.ensures.0 (item_at c.args.self.now.entries.items c.args.item c.in_ok-k.k (sym c.in_ok-k.ensures.value))
