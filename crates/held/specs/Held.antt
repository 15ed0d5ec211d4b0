-- What each operation of a held transaction calls and answers.
use Rattle.std.specs.Prelude.{◌≡◌, ℕ, Bool, false, cond, ◌||◌, List, [], ◌∷◌, ◌++◌, map, Ok, Err, Result}
use Rattle.service.specs.declared.refusals.Refusal.{Refusal}
use Rattle.service.specs.declared.refusals.Refusal.TheVariants.{WrongState}
use Rattle.service.specs.declared.calls.Call.{Call}
use Rattle.service.specs.declared.calls.Call.TheVariants.{Certify, Commit, Abort, Settle}
use Rattle.service.specs.declared.calls.Answer.{Answer}
use Rattle.service.specs.declared.calls.Answer.TheVariants.{Done, Stamp}
use Rattle.service.specs.declared.tools.Phase.TheVariants.{Closed as IsClosed, Failed as HasFailed}
use Rattle.service.specs.Refusals.{rejects}
use Rattle.service.specs.Service.{State, tool_of, step}
use Rattle.service.specs.Views.{is_under, held_items, bare_items, tokens_stand}
use Rattle.held.specs.declared.transactions.Open.{Open}
use Rattle.held.specs.declared.transactions.Closed.{Closed}
use Rattle.held.specs.declared.transactions.Grant.{Grant}
use Rattle.held.specs.declared.transactions.Uncertified.{Uncertified}
use Rattle.held.specs.declared.transactions.Uncertified.TheVariants.{Rejected, Refused}
use Rattle.held.specs.Calls.{after, without, if_accepted, up_to_refusal, first_refusal, Deed}

-- one call, and what is made of its answer
abbrev pub only : {A : Type 0} → Call → (Result Answer Refusal → A) → State → Deed A
only c f s = record { calls = c ∷ []; answer = f (step s c).0 }

-- a refusal hands the transaction back
abbrev pub or_back : {B : Type 0} → B → Result (Unit {0}) Refusal → Result (Unit {0}) (Refusal × B)
or_back b (Ok u) = Ok u
or_back b (Err r) = Err (r, b)

-- the open transaction: its operations are single calls

-- what the call answered
abbrev pub begun : Result Open Refusal → Result Answer Refusal
begun (Ok o) = Ok Done
begun (Err r) = Err r

abbrev pub closed_at : Result Closed (Refusal × Open) → Result Answer Refusal
closed_at (Ok x) = Ok (Stamp x.stamp)
closed_at (Err p) = Err p.0

abbrev pub ended : {B : Type 0} → Result (Unit {0}) (Refusal × B) → Result Answer Refusal
ended (Ok u) = Ok Done
ended (Err p) = Err p.0

-- whose transaction is in hand then
abbrev pub BegunFor : ℕ → Result Open Refusal → Type 0
BegunFor t (Ok o) = o.tool ≡ t
BegunFor t (Err r) = Unit

abbrev pub ClosedFrom : Open → Result Closed (Refusal × Open) → Type 0
ClosedFrom o (Ok x) = x.tool ≡ o.tool
ClosedFrom o (Err p) = p.1 ≡ o

abbrev pub Back : {B : Type 0} → B → Result (Unit {0}) (Refusal × B) → Type 0
Back b (Ok u) = Unit
Back b (Err p) = p.1 ≡ b

-- the closed one

-- nothing is called where it is another transaction's turn
abbrev pub only_if : {A : Type 0} → Bool → A → Deed A → Deed A
only_if b a d = cond b d (record { calls = []; answer = a })

abbrev pub is_abortable : State → ℕ → ℕ → Bool
is_abortable s t st = is_under IsClosed s t st || is_under HasFailed s t st

abbrev pub aborts_closed : Closed → State → Deed (Result (Unit {0}) (Refusal × Closed))
aborts_closed x s = only_if (is_abortable s x.tool x.stamp) (Err (WrongState, x)) (only (Abort x.tool) (λ a. or_back x (without a)) s)

-- the settlements of the entries that hold a token, in the order of the entries
abbrev pub settlements : ℕ → State → List Call
settlements t s = map (Settle t) (held_items s t)

-- a call, and then the settlement of everything
abbrev pub settling : Call → State → List Call
settling c s = c ∷ if_accepted (step s c).0 (settlements (tool_of c) (step s c).1)

-- the certifications of the entries without a token, in the order of the entries
abbrev pub certifications : ℕ → State → List Call
certifications t s = map (Certify t) (bare_items s t)

abbrev pub is_rejection : Result (Unit {0}) Refusal → Bool
is_rejection (Ok u) = false
is_rejection (Err r) = rejects r

-- after a rejection it aborts and settles everything
abbrev pub afterwards : ℕ → Result (Unit {0}) Refusal → State → List Call
afterwards t o s = cond (is_rejection o) (settling (Abort t) s) []

-- a rejection ends the transaction, and any other refusal hands it back
abbrev pub granted : Closed → Result (Unit {0}) Refusal → Result Grant Uncertified
granted x (Ok u) = Ok (record { tool = x.tool; stamp = x.stamp })
granted x (Err r) = Err (cond (rejects r) (Rejected r) (Refused r x))

abbrev pub certifying : Closed → State → Deed (Result Grant Uncertified)
certifying x s = record {
  calls = up_to_refusal s (certifications x.tool s)
      ++ afterwards x.tool (first_refusal s (certifications x.tool s)) (after s (up_to_refusal s (certifications x.tool s)));
  answer = granted x (first_refusal s (certifications x.tool s));
}

abbrev pub certifies_all : Closed → State → Deed (Result Grant Uncertified)
certifies_all x s = only_if (is_under IsClosed s x.tool x.stamp) (Err (Refused WrongState x)) (certifying x s)

-- the grant

abbrev pub settles_all : Grant → Call → State → Deed (Result (Unit {0}) (Refusal × Grant))
settles_all g c s = record { calls = settling c s; answer = or_back g (without (step s c).0) }

abbrev pub spends : Grant → Call → State → Deed (Result (Unit {0}) (Refusal × Grant))
spends g c s = only_if (is_under IsClosed s g.tool g.stamp) (Err (WrongState, g)) (settles_all g c s)

abbrev pub commits_all : Grant → State → Deed (Result (Unit {0}) (Refusal × Grant))
commits_all g = spends g (Commit g.tool)

abbrev pub aborts_all : Grant → State → Deed (Result (Unit {0}) (Refusal × Grant))
aborts_all g = spends g (Abort g.tool)

-- it makes no call
abbrev pub given_up : Grant → State → Result (Unit {0}) (Refusal × Grant)
given_up g s = cond (tokens_stand s g.tool g.stamp) (Err (WrongState, g)) (Ok tt)
