use Rattle.std.proofs.Common.{sym}
use Rattle.store.proofs.PairLaws.{set_pair_first, set_pair_second, set_pair_past}
use Rattle.store.proofs.pairs.PairStore.put.Goals as goal

pub returns-in-Some-First-clause-versions : goal.returns-in-Some-First-clause-versions
returns-in-Some-First-clause-versions g c =
    let first = g.A.Store.versions c.args.self.now.first in
    let second = g.B.Store.versions c.args.self.now.second in
    set_pair_first first second _ c.args.item c.in-Some-First.place c.args.version (g.met.A.Store.few c.args.self.now.first)
    (rw c.in-Some-First.field-0-is at c.in-Some-First.ensures) c.put.ensures

pub returns-in-Some-Second-clause-versions : goal.returns-in-Some-Second-clause-versions
returns-in-Some-Second-clause-versions g c =
    let first = g.A.Store.versions c.args.self.now.first in
    let second = g.B.Store.versions c.args.self.now.second in
    set_pair_second first second _ c.args.item c.in-Some-Second.place c.args.version
    (rw c.in-Some-Second.field-0-is at c.in-Some-Second.ensures) c.put-in-Some-Second.ensures

pub returns-in-None-clause-versions : goal.returns-in-None-clause-versions
returns-in-None-clause-versions g c =
    sym (set_pair_past (g.A.Store.versions c.args.self.now.first) (g.B.Store.versions c.args.self.now.second) c.args.item c.args.version c.in-None.ensures.1)
