-- Each shortcut's history computed: a read that the serial run answers otherwise, or a value that it does not leave.
use Rattle.std.proofs.Common.{◌≡◌, ℕ, ap, inl, inr, arith}
use Rattle.history.specs.History.{among, settles}
use Rattle.history.specs.Transactions.{Transaction, transactions}
use Rattle.history.specs.Serial.{Cell, Settled}
use Rattle.history.specs.Shortcuts.{ShortcutsBreak, late_write}

pub shortcuts_break : ShortcutsBreak
shortcuts_break = record {
  youngest_only_breaks = λ l. let z : ◌≡◌ {A = ℕ} 0 1 = l.serial_reads.0.1.1.1.1.0 in omega arith;
  lowered_tread_breaks = λ l. let z : ◌≡◌ {A = ℕ} 0 1 = l.serial_reads.0.1.1.1.1.0 in omega arith;
  late_write_breaks = λ l. let z : ◌≡◌ {A = ℕ} 9 7 = ap (λ (c : Cell). c.value) (l.serial_item 0 (omega arith) settled) in omega arith;
  equal_values_break = λ l. let z : ◌≡◌ {A = ℕ} 0 1 = l.serial_reads.1.0.1.1.1.1.0 in omega arith;
}
  where
    settled : Settled 0 (transactions late_write)
    settled x (inl e) c u = ap (λ (y : Transaction). among (settles 0) y.calls) e
    settled x (inr (inl e)) c u = ap (λ (y : Transaction). among (settles 0) y.calls) e
    settled x (inr (inr m)) c u = absurd m
