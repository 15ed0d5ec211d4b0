-- What every state reached from start shows: the queues are in order, each token in them stands for an entry, and so
-- they are never full.
use Rattle.std.specs.Prelude.{◌≡◌, ℕ, ◌+◌, ◌%◌, ◌<◌, ◌≤◌, Bool, true, false, cond, ◌&&◌, ◌⊎◌, List, [], ◌∷◌, length, is_some, Some}
use Rattle.queue.specs.Tokens.{has, ascending}
use Rattle.service.specs.declared.tools.Entry.{Entry}
use Rattle.service.specs.declared.tools.Phase.{Phase}
use Rattle.service.specs.declared.tools.Phase.TheVariants.{Idle, Open, Closed, Failed, Committed, Aborting}
use Rattle.service.specs.Tokens.{ReadToken, WriteToken}
use Rattle.service.specs.Entries.{is_held, find, any_held}
use Rattle.service.specs.Service.{Seat, State, seat, read_tells, write_tells}

-- the phases from closing to the last settlement
abbrev pub Stamped : Phase → Type 0
Stamped Idle = ⊥
Stamped Open = ⊥
Stamped Closed = Unit
Stamped Failed = Unit
Stamped Committed = Unit
Stamped Aborting = Unit

abbrev pub is_read : Entry → Bool
is_read e = is_some e.seen

abbrev pub is_written : Entry → Bool
is_written e = e.written

-- how many entries hold a token and pass a test
abbrev pub held : (Entry → Bool) → List Entry → ℕ
held f [] = 0
held f (e ∷ es) = cond (is_held e.stand && f e) 1 0 + held f es

abbrev pub total : (Entry → Bool) → List Seat → ℕ
total f [] = 0
total f (x ∷ xs) = held f x.entries + total f xs

pub record SeatSound (reads : List ReadToken) (writes : List WriteToken) (t : ℕ) (x : Seat) : Type 0 where
  pub size : length x.entries ≤ 8
  pub stamp : Stamped x.phase → x.stamp % 16 ≡ t
  -- before its close a transaction has no token
  pub calm : (x.phase ≡ Idle) ⊎ (x.phase ≡ Open) → any_held x.entries ≡ false
  pub read : (i : ℕ) (e : Entry) → find i x.entries ≡ Some e → is_held e.stand ≡ true → is_read e ≡ true → has read_tells i x.stamp reads ≡ true
  pub write : (i : ℕ) (e : Entry) → find i x.entries ≡ Some e → is_held e.stand ≡ true → is_written e ≡ true → has write_tells i x.stamp writes ≡ true

pub record Sound (s : State) : Type 0 where
  pub sixteen : length s.seats ≡ 16
  pub seats : (t : ℕ) → t < 16 → SeatSound s.reads s.writes t (seat s t)
  pub reads : length s.reads ≤ total is_read s.seats
  pub writes : length s.writes ≤ total is_written s.seats
  pub reads_ordered : ascending read_tells s.reads ≡ true
  pub writes_ordered : ascending write_tells s.writes ≡ true
