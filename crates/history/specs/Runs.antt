-- Runs of the service from its start, and what holds of each.
use Rattle.std.specs.Prelude.{◌≡◌, ℕ, ◌<◌, ◌≤◌, false, List, [], ◌∷◌, length, Ok, Err, Result}
use Rattle.store.specs.declared.Version.{Version}
use Rattle.service.specs.declared.refusals.Refusal.{Refusal}
use Rattle.service.specs.declared.calls.Call.{Call}
use Rattle.service.specs.declared.calls.Answer.{Answer}
use Rattle.service.specs.declared.calls.Answer.TheVariants.{Done, Value, Stamp}
use Rattle.service.specs.Refusals.{rejects}
use Rattle.service.specs.Service.{State, Does, start, version}
use Rattle.history.specs.History.{History, kind, settles}
use Rattle.history.specs.Serial.{Law, In}

-- a history from the versions vs, and the state after it
pub data Run (vs : List Version) : History → State → Type 0 where
  started : Run vs [] (start vs)
  called : {h : History} {s : State} (c : Call) (a : Result Answer Refusal) (s' : State) → Run vs h s → Does s c a s' → Run vs ((c, a) ∷ h) s'

-- the history after these calls with these answers, which came in this order; the longer list's rest does not count
abbrev pub onward : List Call → List (Result Answer Refusal) → History → History
onward [] os h = h
onward (c ∷ cs) [] h = h
onward (c ∷ cs) (o ∷ os) h = onward cs os ((c, o) ∷ h)

-- a run, and the law that it meets
pub record Runs (vs : List Version) (h : History) (s : State) : Type 0 where
  pub run : Run vs h s
  pub law : Law vs h s.versions

-- every run meets the law
abbrev pub SerialOrder : Type 0
SerialOrder = (vs : List Version) (h : History) (s : State) → Run vs h s → Law vs h s.versions

-- no queue has more tokens than places
abbrev pub QueuesHold : Type 0
QueuesHold = (vs : List Version) (h : History) (s : State) → Run vs h s → (length s.reads ≤ 128) × (length s.writes ≤ 128)

-- a refusal that does not reject a certification changes nothing
abbrev pub RefusalsKeep : Type 0
RefusalsKeep = (s : State) (c : Call) (r : Refusal) (s' : State) → Does s c (Err r) s' → rejects r ≡ false → s' ≡ s

-- a call that settles nothing leaves the store as it was, and any other changes the item that it settles alone
abbrev pub OnlySettleWrites : Type 0
OnlySettleWrites = (s : State) (c : Call) (a : Result Answer Refusal) (s' : State) → Does s c a s'
    → (((i : ℕ) → settles i (kind c) ≡ false) → s'.versions ≡ s.versions)
    × ((i : ℕ) → settles i (kind c) ≡ false → version s'.versions i ≡ version s.versions i)

-- the stamps that a history gave
abbrev pub stamp_or : Result Answer Refusal → List ℕ → List ℕ
stamp_or (Err r) ns = ns
stamp_or (Ok Done) ns = ns
stamp_or (Ok (Value v)) ns = ns
stamp_or (Ok (Stamp n)) ns = n ∷ ns

abbrev pub stamps : History → List ℕ
stamps [] = []
stamps (e ∷ h) = stamp_or e.1 (stamps h)

abbrev pub Distinct : List ℕ → Type 0
Distinct [] = Unit
Distinct (n ∷ ns) = (In n ns → ⊥) × Distinct ns

-- no stamp is given twice, and each is above all that the store had at start
abbrev pub StampsFresh : Type 0
StampsFresh = (vs : List Version) (h : History) (s : State) → Run vs h s
    → Distinct (stamps h) × ((n : ℕ) → In n (stamps h) → (i : ℕ) → ((version vs i).twrite < n) × ((version vs i).tread < n))
