-- A service over a store with that meaning.
use Rattle.std.specs.Prelude.{◌≡◌, ℕ, cond, max, List, map, fold, filter_map, length, Ok, Err, Result, nat_le}
use Rattle.std.specs.List.{slice_get, range_with_len}
use Rattle.store.specs.declared.Version.{Version}
use Rattle.queue.specs.Tokens.{count}
use Rattle.service.specs.declared.refusals.Refusal.{Refusal}
use Rattle.service.specs.declared.refusals.Refusal.TheVariants.{UnknownItem}
use Rattle.service.specs.declared.calls.Call.{Call}
use Rattle.service.specs.declared.calls.Call.TheVariants.{Begin, Read, Write, Close, Certify, Commit, Abort, Settle}
use Rattle.service.specs.declared.calls.Answer.{Answer}
use Rattle.service.specs.declared.calls.Answer.TheVariants.{Done, Value, Stamp}
use Rattle.service.specs.declared.services.Service.{Service}
use Rattle.service.specs.declared.looks.Look.{Look}
use Rattle.service.specs.Service.{State, version, read_tells, write_tells, Does}
use Rattle.service.specs.Desks.{state}

module _ {S : Type 0} (versions : S → List Version) where
  abbrev pub state_of : Service S → State
  state_of x = state (versions x.store) x.desk

  -- x makes the call, answers a, and is y afterwards; the store itself stays unless one of its versions changes
  pub record Makes (x : Service S) (c : Call) (a : Result Answer Refusal) (y : Service S) : Type 0 where
    pub does : Does (state_of x) c a (state_of y)
    pub kept : versions y.store ≡ versions x.store → y.store ≡ x.store

-- answers of the single calls, as those of any call
abbrev pub done : Result (Unit {0}) Refusal → Result Answer Refusal
done (Ok u) = Ok Done
done (Err r) = Err r

abbrev pub valued : Result ℕ Refusal → Result Answer Refusal
valued (Ok v) = Ok (Value v)
valued (Err r) = Err r

abbrev pub stamped : Result ℕ Refusal → Result Answer Refusal
stamped (Ok s) = Ok (Stamp s)
stamped (Err r) = Err r

-- the calls that answer no more than that they are done
abbrev pub AnswersDone : Call → Type 0
AnswersDone (Begin t) = Unit
AnswersDone (Read t i) = ⊥
AnswersDone (Write t i v) = Unit
AnswersDone (Close t k) = ⊥
AnswersDone (Certify t i) = Unit
AnswersDone (Commit t) = Unit
AnswersDone (Abort t) = Unit
AnswersDone (Settle t i) = Unit

-- an item's version and how many tokens it has
abbrev pub looked : State → ℕ → Result Look Refusal
looked s i = cond (nat_le (length s.versions) i) (Err UnknownItem)
    (Ok (record { version = version s.versions i; reads = count read_tells i s.reads; writes = count write_tells i s.writes }))

-- the largest stamp among the versions that get answers for the items in turn
abbrev pub largest_found : List Version → ℕ
largest_found vs = fold max 0 (map (λ (v : Version). max v.twrite v.tread) (filter_map (λ i. slice_get vs i) (range_with_len 0 (length vs))))
