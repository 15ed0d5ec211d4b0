use Rattle.std.proofs.Common.{sym, ◌∙◌}
use Rattle.store.proofs.PairLaws.{nth_pair_first, nth_pair_second, nth_pair_past}
use Rattle.store.proofs.pairs.PairStore.get.Goals as goal

pub returns-in-First : goal.returns-in-First
returns-in-First g c =
    let first = g.A.Store.versions c.args.self.now.first in
    let second = g.B.Store.versions c.args.self.now.second in
    c.get.ensures ∙ nth_pair_first first second c.args.item c.in-First.place (g.met.A.Store.few c.args.self.now.first) (rw c.in-First.is at c.in_ok-place.ensures)

pub returns-in-Second : goal.returns-in-Second
returns-in-Second g c =
    let first = g.A.Store.versions c.args.self.now.first in
    let second = g.B.Store.versions c.args.self.now.second in
    c.get-in-Second.ensures ∙ nth_pair_second first second c.args.item c.in-Second.place (rw c.in-Second.is at c.in_ok-place.ensures)

pub returns-in_err-place : goal.returns-in_err-place
returns-in_err-place g c =
    c.from_residual.ensures ∙ sym (nth_pair_past (g.A.Store.versions c.args.self.now.first) (g.B.Store.versions c.args.self.now.second) c.args.item c.in_err-place.ensures.1)
