use Rattle.std.proofs.Common.{◌*◌, sym, ap, ◌∙◌, arith}
use Rattle.std.proofs.lemmas.Bool.{cond-true, lt-ltb}
use Rattle.store.specs.Table.{table}
use Rattle.store.proofs.Places.{over_new}
use Rattle.store.proofs.TableLaws.{table_put}
use Rattle.store.proofs.tables.TableStore.put.Goals as goal

pub returns-then-item-self-clause-versions : goal.returns-then-item-self-clause-versions
returns-then-item-self-clause-versions c =
    ap (λ b. table b c.args.self.now.count) (over_new (20 * c.args.item) c.args.self.now.area.bytes.now c.write.ensures c.pack.ensures)
    ∙ table_put c.args.self.now.area.bytes.now c.args.self.now.count c.args.item c.args.version (omega arith) c.if-item-self.true
    (record { value = omega arith; twrite = omega arith; tread = omega arith })

pub returns-then-item-self-clause-bytes : goal.returns-then-item-self-clause-bytes
returns-then-item-self-clause-bytes c =
    over_new (20 * c.args.item) c.args.self.now.area.bytes.now c.write.ensures c.pack.ensures
    ∙ sym (cond-true _ _ _ (lt-ltb _ _ c.if-item-self.true))
