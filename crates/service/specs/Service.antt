-- The service: its state, and what each call answers and leaves.
use Rattle.std.specs.Prelude.{◌≡◌, ℕ, ◌+◌, ◌*◌, ◌/◌, ◌^◌, max, Bool, true, false, cond, not, ◌&&◌, ◌||◌, List, [], ◌∷◌, length, replicate, is_some, Some, None, Ok, Err, Option, Result, ◌==◌, nat_le, nat_lt, slice_index_or, slice_set}
use Rattle.store.specs.declared.Version.{Version}
use Rattle.queue.specs.Tokens.{Tells, place, remove, between, reached}
use Rattle.service.specs.declared.refusals.Refusal.{Refusal}
use Rattle.service.specs.declared.refusals.Refusal.TheVariants.{UnknownTool, WrongState, UnknownItem, TooManyEntries, TickTooLarge, CounterSpent, NoEntry, HasToken, NotCertified, NoToken}
use Rattle.service.specs.declared.calls.Call.{Call}
use Rattle.service.specs.declared.calls.Call.TheVariants.{Begin, Read, Write, Close, Certify, Commit, Abort, Settle}
use Rattle.service.specs.declared.calls.Answer.{Answer}
use Rattle.service.specs.declared.calls.Answer.TheVariants.{Done, Value, Stamp}
use Rattle.service.specs.declared.tools.Entry.{Entry}
use Rattle.service.specs.declared.tools.Phase.{Phase}
use Rattle.service.specs.declared.tools.Phase.TheVariants.{Idle, Open, Closed, Failed, Committed, Aborting}
use Rattle.service.specs.declared.tools.Stand.TheVariants.{Held, Settled}
use Rattle.service.specs.Tokens.{ReadToken, WriteToken, certified_tells}
use Rattle.service.specs.Refusals.{Rules, refusal, rejects}
use Rattle.service.specs.declared.certification.Claim.{Claim}
use Rattle.service.specs.Certification.{Found, certification}
use Rattle.service.specs.Entries.{is_held, find, enter, or_blank, read_from, written_to, stood, any_held, all_held, settled_version}

-- a tool: its phase, its last counter, the stamp of its closed transaction, its entries
pub record Seat : Type 0 where
  pub phase : Phase
  pub last : ℕ
  pub stamp : ℕ
  pub entries : List Entry

pub record State : Type 0 where
  pub versions : List Version
  pub seats : List Seat
  pub reads : List ReadToken
  pub writes : List WriteToken

abbrev pub read_tells : Tells ReadToken
read_tells = certified_tells

abbrev pub write_tells : Tells WriteToken
write_tells = certified_tells

-- looking

abbrev pub fresh : ℕ → Seat
fresh n = record { phase = Idle; last = n; stamp = 0; entries = [] }

abbrev pub seat : State → ℕ → Seat
seat s t = slice_index_or s.seats t (fresh 0)

abbrev pub version : List Version → ℕ → Version
version vs i = slice_index_or vs i (record { value = 0; twrite = 0; tread = 0 })

abbrev pub entry : Seat → ℕ → Entry
entry x i = or_blank i (find i x.entries)

abbrev pub absent : Seat → ℕ → Bool
absent x i = not (is_some (find i x.entries))

abbrev pub phase_no : Phase → ℕ
phase_no Idle = 0
phase_no Open = 1
phase_no Closed = 2
phase_no Failed = 3
phase_no Committed = 4
phase_no Aborting = 5

abbrev pub is : Phase → Phase → Bool
is p q = phase_no p == phase_no q

abbrev pub tool_of : Call → ℕ
tool_of (Begin t) = t
tool_of (Read t i) = t
tool_of (Write t i v) = t
tool_of (Close t k) = t
tool_of (Certify t i) = t
tool_of (Commit t) = t
tool_of (Abort t) = t
tool_of (Settle t i) = t

-- refusals

abbrev pub allowed : Call → Phase → Bool
allowed (Begin t) p = is p Idle
allowed (Read t i) p = is p Open
allowed (Write t i v) p = is p Open
allowed (Close t k) p = is p Open
allowed (Certify t i) p = is p Closed
allowed (Commit t) p = is p Closed
allowed (Abort t) p = is p Open || (is p Closed || is p Failed)
allowed (Settle t i) p = is p Committed || is p Aborting

-- a counter above the tool's last and above the tick
abbrev pub counter : Seat → ℕ → ℕ
counter x k = 1 + max x.last k

abbrev pub touches : State → Seat → ℕ → Rules
touches s x i = (nat_le (length s.versions) i, UnknownItem) ∷ (absent x i && nat_le 8 (length x.entries), TooManyEntries) ∷ []

-- an item as a claim with that stamp meets it
abbrev pub meets : State → ℕ → ℕ → Found
meets s i st = record {
  twrite = (version s.versions i).twrite;
  tread = (version s.versions i).tread;
  crossed = between write_tells i (version s.versions i).twrite st s.writes;
  reached = reached read_tells i st s.reads;
}

abbrev pub claim : Entry → ℕ → Claim
claim e st = record { seen = e.seen; written = e.written; stamp = st }

abbrev pub certifies : State → Seat → ℕ → Rules
certifies s x i = certification (claim (entry x i) x.stamp) (meets s i x.stamp)

-- the tests after those of the tool and its phase
abbrev pub tests : State → Seat → Call → Rules
tests s x (Begin t) = []
tests s x (Read t i) = touches s x i
tests s x (Write t i v) = touches s x i
tests s x (Close t k) = (nat_le (2 ^ 40) k, TickTooLarge) ∷ (nat_lt (2 ^ 40) (counter x k), CounterSpent) ∷ []
tests s x (Certify t i) = (absent x i, NoEntry) ∷ (is_held (entry x i).stand, HasToken) ∷ certifies s x i
tests s x (Commit t) = (not (all_held x.entries), NotCertified) ∷ []
tests s x (Abort t) = []
tests s x (Settle t i) = (absent x i, NoEntry) ∷ (not (is_held (entry x i).stand), NoToken) ∷ []

abbrev pub rules : State → Call → Rules
rules s c =
    (nat_lt 15 (tool_of c), UnknownTool)
    ∷ (not (allowed c (seat s (tool_of c)).phase), WrongState)
    ∷ tests s (seat s (tool_of c)) c

-- what an accepted call answers

abbrev pub answer : State → Seat → Call → Answer
answer s x (Begin t) = Done
answer s x (Read t i) = Value (cond (absent x i) (version s.versions i).value (entry x i).value)
answer s x (Write t i v) = Done
answer s x (Close t k) = Stamp (counter x k * 16 + t)
answer s x (Certify t i) = Done
answer s x (Commit t) = Done
answer s x (Abort t) = Done
answer s x (Settle t i) = Done

-- and what it leaves

abbrev pub phased : Seat → Phase → Seat
phased x p = record { phase = p; last = x.last; stamp = x.stamp; entries = x.entries }

abbrev pub entered : Seat → List Entry → Seat
entered x es = record { phase = x.phase; last = x.last; stamp = x.stamp; entries = es }

-- idle, with its last counter kept
abbrev pub rested : Seat → Seat
rested x = record { phase = Idle; last = x.last; stamp = x.stamp; entries = [] }

abbrev pub is_empty : {A : Type 0} → List A → Bool
is_empty [] = true
is_empty (x ∷ xs) = false

-- idle with its last token gone
abbrev pub unless_held : Seat → Seat
unless_held x = cond (any_held x.entries) x (rested x)

abbrev pub next_seat : State → Seat → Call → Seat
next_seat s x (Begin t) = record { phase = Open; last = x.last; stamp = x.stamp; entries = [] }
next_seat s x (Read t i) = entered x (cond (absent x i) (enter (read_from i (version s.versions i)) x.entries) x.entries)
next_seat s x (Write t i v) = entered x (enter (written_to (entry x i) v) x.entries)
next_seat s x (Close t k) = record { phase = Closed; last = counter x k; stamp = counter x k * 16 + t; entries = x.entries }
next_seat s x (Certify t i) = entered x (enter (stood (entry x i) Held) x.entries)
next_seat s x (Commit t) = cond (is_empty x.entries) (rested x) (phased x Committed)
next_seat s x (Abort t) = unless_held (phased x Aborting)
next_seat s x (Settle t i) = unless_held (entered x (enter (stood (entry x i) Settled) x.entries))

-- only settling a committed entry changes the versions
abbrev pub next_versions : State → Seat → Call → List Version
next_versions s x (Begin t) = s.versions
next_versions s x (Read t i) = s.versions
next_versions s x (Write t i v) = s.versions
next_versions s x (Close t k) = s.versions
next_versions s x (Certify t i) = s.versions
next_versions s x (Commit t) = s.versions
next_versions s x (Abort t) = s.versions
next_versions s x (Settle t i) = cond (is x.phase Committed) (slice_set s.versions i (settled_version (entry x i) x.stamp (version s.versions i))) s.versions

-- the queues with the tokens of item i's entry under a stamp, and without them
abbrev pub with_read : ℕ → ℕ → ℕ → Entry → List ReadToken → List ReadToken
with_read t i st e q = cond (is_some e.seen) (place read_tells (record { tool = t; item = i; stamp = st; value = tt }) q) q

abbrev pub with_write : ℕ → ℕ → ℕ → Entry → List WriteToken → List WriteToken
with_write t i st e q = cond e.written (place write_tells (record { tool = t; item = i; stamp = st; value = e.value }) q) q

abbrev pub without_read : ℕ → ℕ → Entry → List ReadToken → List ReadToken
without_read i st e q = cond (is_some e.seen) (remove read_tells i st q) q

abbrev pub without_write : ℕ → ℕ → Entry → List WriteToken → List WriteToken
without_write i st e q = cond e.written (remove write_tells i st q) q

abbrev pub next_reads : State → Seat → Call → List ReadToken
next_reads s x (Begin t) = s.reads
next_reads s x (Read t i) = s.reads
next_reads s x (Write t i v) = s.reads
next_reads s x (Close t k) = s.reads
next_reads s x (Certify t i) = with_read t i x.stamp (entry x i) s.reads
next_reads s x (Commit t) = s.reads
next_reads s x (Abort t) = s.reads
next_reads s x (Settle t i) = without_read i x.stamp (entry x i) s.reads

abbrev pub next_writes : State → Seat → Call → List WriteToken
next_writes s x (Begin t) = s.writes
next_writes s x (Read t i) = s.writes
next_writes s x (Write t i v) = s.writes
next_writes s x (Close t k) = s.writes
next_writes s x (Certify t i) = with_write t i x.stamp (entry x i) s.writes
next_writes s x (Commit t) = s.writes
next_writes s x (Abort t) = s.writes
next_writes s x (Settle t i) = without_write i x.stamp (entry x i) s.writes

abbrev pub next : State → Seat → Call → State
next s x c = record {
  versions = next_versions s x c;
  seats = slice_set s.seats (tool_of c) (next_seat s x c);
  reads = next_reads s x c;
  writes = next_writes s x c;
}

abbrev pub reseat : State → ℕ → Seat → State
reseat s t x = record { versions = s.versions; seats = slice_set s.seats t x; reads = s.reads; writes = s.writes }

-- a refusal changes nothing, but a rejected certification leaves its tool failed
abbrev pub outcome : State → Seat → Call → Option Refusal → Result Answer Refusal × State
outcome s x c None = (Ok (answer s x c), next s x c)
outcome s x c (Some r) = (Err r, cond (rejects r) (reseat s (tool_of c) (phased x Failed)) s)

abbrev pub step : State → Call → Result Answer Refusal × State
step s c = outcome s (seat s (tool_of c)) c (refusal (rules s c))

-- the call, its answer, and the states before and after it
abbrev pub Does : State → Call → Result Answer Refusal → State → Type 0
Does s c a s' = step s c ≡ (a, s')

-- start

abbrev pub largest : List Version → ℕ
largest [] = 0
largest (v ∷ vs) = max (max v.twrite v.tread) (largest vs)

abbrev pub start : List Version → State
start vs = record { versions = vs; seats = replicate 16 (fresh (largest vs / 16)); reads = []; writes = [] }

-- what the call answers, and its tool's seat after it, once tool and phase are right and no certification is asked for
abbrev pub reply : State → Seat → Call → Option Refusal → Result Answer Refusal × Seat
reply s x c None = (Ok (answer s x c), next_seat s x c)
reply s x c (Some r) = (Err r, x)

abbrev pub Replies : State → Seat → Call → Result Answer Refusal → Seat → Type 0
Replies s x c a x' = reply s x c (refusal (tests s x c)) ≡ (a, x')
