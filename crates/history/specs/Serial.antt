-- The serial run: the committed transactions one after the other, directly on the values. It is computed from the
-- versions at start and from the history, and from nothing that a service keeps.
use Rattle.std.specs.Prelude.{◌≡◌, ℕ, ◌<◌, true, cond, ◌⊎◌, List, [], ◌∷◌, length, ◌==◌}
use Rattle.store.specs.declared.Version.{Version}
use Rattle.service.specs.declared.calls.Answer.{Answer}
use Rattle.service.specs.declared.calls.Answer.TheVariants.{Done, Value, Stamp}
use Rattle.service.specs.Service.{version}
use Rattle.history.specs.History.{History, Accepted, Kind, Begins, Commits, Other, Reads, Settles, Writes, kind, among, uses, settles}
use Rattle.history.specs.Transactions.{Transaction, transactions, is_committed, stamp_of, ordered}

-- what the run keeps of an item
pub record Cell : Type 0 where
  pub value : ℕ
  pub stamp : ℕ

abbrev pub Cells : Type 0
Cells = ℕ → Cell

abbrev pub cells : List Version → Cells
cells vs i = record { value = (version vs i).value; stamp = (version vs i).twrite }

-- a call of the transaction with stamp s, directly on the values: a write alone changes them
abbrev pub act : ℕ → Kind → Cells → Cells
act s Begins m j = m j
act s Commits m j = m j
act s Other m j = m j
act s (Reads i) m j = m j
act s (Settles i) m j = m j
act s (Writes i v) m j = cond (j == i) (record { value = v; stamp = s }) (m j)

abbrev pub acts : ℕ → List Accepted → Cells → Cells
acts s [] m = m
acts s (e ∷ es) m = act s (kind e.0) (acts s es m)

abbrev pub serial : Cells → List Transaction → Cells
serial m [] = m
serial m (x ∷ xs) = acts (stamp_of x) x.calls (serial m xs)

abbrev pub IsValue : Answer → ℕ → Type 0
IsValue Done v = ⊥
IsValue (Value w) v = w ≡ v
IsValue (Stamp s) v = ⊥

-- a read answered the value that stands there
abbrev pub Right : Cells → Answer → Kind → Type 0
Right m a Begins = Unit
Right m a Commits = Unit
Right m a Other = Unit
Right m a (Reads i) = IsValue a (m i).value
Right m a (Settles i) = Unit
Right m a (Writes i v) = Unit

abbrev pub Rights : ℕ → Cells → List Accepted → Type 0
Rights s m [] = Unit
Rights s m (e ∷ es) = Right (acts s es m) e.1 (kind e.0) × Rights s m es

-- each read of each transaction answered what it gives in the serial run
abbrev pub AllRight : Cells → List Transaction → Type 0
AllRight m [] = Unit
AllRight m (x ∷ xs) = Rights (stamp_of x) (serial m xs) x.calls × AllRight m xs

abbrev pub In : {A : Type 0} → A → List A → Type 0
In a [] = ⊥
In a (x ∷ xs) = (a ≡ x) ⊎ In a xs

-- each committed transaction that uses item i has settled it
abbrev pub Settled : ℕ → List Transaction → Type 0
Settled i xs = (x : Transaction) → In x xs → is_committed x ≡ true → among (uses i) x.calls ≡ true → among (settles i) x.calls ≡ true

abbrev pub AllSettled : List Transaction → Type 0
AllSettled xs = (i : ℕ) → Settled i xs

-- what a history from the versions vs, and the versions ws after it, must show
pub record Law (vs : List Version) (h : History) (ws : List Version) : Type 0 where
  pub serial_reads : AllRight (cells vs) (ordered (transactions h))
  pub serial_item : (i : ℕ) → i < length vs → Settled i (transactions h) → cells ws i ≡ serial (cells vs) (ordered (transactions h)) i
  pub serial_store : AllSettled (transactions h) → (i : ℕ) → i < length vs → cells ws i ≡ serial (cells vs) (ordered (transactions h)) i
  pub length : length ws ≡ length vs
