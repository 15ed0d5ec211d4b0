-- Four shortcuts that look harmless. A service that takes one answers such a history and leaves such a version, on one
-- item that begins with value 0: the law refutes each.
use Rattle.std.specs.Prelude.{ℕ, List, [], ◌∷◌, ◌++◌, Ok}
use Rattle.store.specs.declared.Version.{Version}
use Rattle.service.specs.declared.calls.Call.{Call}
use Rattle.service.specs.declared.calls.Call.TheVariants.{Begin, Read, Write, Close, Certify, Commit, Settle}
use Rattle.service.specs.declared.calls.Answer.TheVariants.{Done, Value, Stamp}
use Rattle.history.specs.History.{Event, History}
use Rattle.history.specs.Serial.{Law}

abbrev pub one : ℕ → ℕ → ℕ → List Version
one v w r = record { value = v; twrite = w; tread = r } ∷ []

abbrev pub done : Call → Event
done c = (c, Ok Done)

-- tool t reads v, or writes v, and closes at tick k with the stamp n
abbrev pub reads : ℕ → ℕ → ℕ → ℕ → History
reads t v k n = (Close t k, Ok (Stamp n)) ∷ (Read t 0, Ok (Value v)) ∷ done (Begin t) ∷ []

abbrev pub writes : ℕ → ℕ → ℕ → ℕ → History
writes t v k n = (Close t k, Ok (Stamp n)) ∷ done (Write t 0 v) ∷ done (Begin t) ∷ []

abbrev pub certifies : ℕ → History
certifies t = done (Certify t 0) ∷ []

abbrev pub finishes : ℕ → History
finishes t = done (Settle t 0) ∷ done (Commit t) ∷ certifies t

-- a write at 114 is tested against the youngest read token, 81, and not against tread, 160
abbrev pub youngest_only : History
youngest_only = finishes 2 ++ writes 2 1 6 114 ++ certifies 1 ++ reads 1 0 4 81 ++ finishes 0 ++ reads 0 0 9 160

-- a reader at 81 settles after one at 160 and lowers tread, and so a write at 114 is let through
abbrev pub lowered_tread : History
lowered_tread = finishes 2 ++ writes 2 1 6 114 ++ finishes 1 ++ reads 1 0 4 81 ++ finishes 0 ++ reads 0 0 9 160

-- a write at 49 comes after one at 160, and is installed
abbrev pub late_write : History
late_write = finishes 1 ++ writes 1 9 2 49 ++ finishes 0 ++ writes 0 7 9 160

-- 0 is read, 1 is written at 18 and 0 again at 83: the value matches, and the reader is certified at 49
abbrev pub equal_values : History
equal_values = finishes 1 ++ finishes 3 ++ writes 3 0 4 83 ++ finishes 2 ++ writes 2 1 0 18 ++ reads 1 0 2 49

pub record ShortcutsBreak : Type 0 where
  pub youngest_only_breaks : Law (one 0 0 0) youngest_only (one 1 114 160) → ⊥
  pub lowered_tread_breaks : Law (one 0 0 0) lowered_tread (one 1 114 81) → ⊥
  pub late_write_breaks : Law (one 0 0 0) late_write (one 9 49 0) → ⊥
  pub equal_values_break : Law (one 0 0 0) equal_values (one 0 83 49) → ⊥
