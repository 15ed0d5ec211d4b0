-- Lists of calls, made one after the other on one service.
use Rattle.std.specs.Prelude.{◌≡◌, List, [], ◌∷◌, Ok, Err, Result}
use Rattle.store.specs.declared.Version.{Version}
use Rattle.service.specs.declared.refusals.Refusal.{Refusal}
use Rattle.service.specs.declared.calls.Call.{Call}
use Rattle.service.specs.declared.calls.Answer.{Answer}
use Rattle.service.specs.declared.services.Service.{Service}
use Rattle.service.specs.Service.{State, step}
use Rattle.service.specs.Services.{state_of, Makes}
use Rattle.history.specs.History.{History}
use Rattle.history.specs.Runs.{Run, Runs}

-- the answer of a call that gives nothing else
abbrev pub without : Result Answer Refusal → Result (Unit {0}) Refusal
without (Ok a) = Ok tt
without (Err r) = Err r

-- the state after these calls
abbrev pub after : State → List Call → State
after s [] = s
after s (c ∷ cs) = after (step s c).1 cs

-- the history with these calls and their answers
abbrev pub continued : State → List Call → History → History
continued s [] h = h
continued s (c ∷ cs) h = continued (step s c).1 cs ((c, (step s c).0) ∷ h)

abbrev pub if_accepted : Result Answer Refusal → List Call → List Call
if_accepted (Ok a) cs = cs
if_accepted (Err r) cs = []

-- these calls up to the first that is refused
abbrev pub up_to_refusal : State → List Call → List Call
up_to_refusal s [] = []
up_to_refusal s (c ∷ cs) = c ∷ if_accepted (step s c).0 (up_to_refusal (step s c).1 cs)

abbrev pub refusal_or : Result Answer Refusal → Result (Unit {0}) Refusal → Result (Unit {0}) Refusal
refusal_or (Ok a) o = o
refusal_or (Err r) o = Err r

-- and that refusal, if there is one
abbrev pub first_refusal : State → List Call → Result (Unit {0}) Refusal
first_refusal s [] = Ok tt
first_refusal s (c ∷ cs) = refusal_or (step s c).0 (first_refusal (step s c).1 cs)

-- what an operation calls, in this order, and what it answers
pub record Deed (A : Type 0) : Type 0 where
  pub calls : List Call
  pub answer : A

module _ {S : Type 0} (versions : S → List Version) where
  -- x makes these calls in this order, and is y afterwards
  pub data Made : Service S → List Call → Service S → Type 0 where
    none : {x : Service S} → Made x [] x
    more : {x y z : Service S} {cs : List Call} (c : Call) (a : Result Answer Refusal) → Makes versions x c a y → Made y cs z → Made x (c ∷ cs) z

  -- x makes these calls up to the first refusal, if there is one, and is y afterwards
  pub data MadeUpTo : Service S → List Call → Result (Unit {0}) Refusal → Service S → Type 0 where
    up_to : {x y : Service S} {cs : List Call} {o : Result (Unit {0}) Refusal} → Made x (up_to_refusal (state_of versions x) cs) y → o ≡ first_refusal (state_of versions x) cs → MadeUpTo x cs o y

  -- x does this, answers a, and is y afterwards; whatever run from start led to x goes on with the calls, and keeps
  -- the law
  pub record Performs {A : Type 0} (x : Service S) (d : State → Deed A) (a : A) (y : Service S) : Type 0 where
    pub made : Made x (d (state_of versions x)).calls y
    pub answer : a ≡ (d (state_of versions x)).answer
    pub runs : (vs : List Version) (h : History) → Run vs h (state_of versions x) → Runs vs (continued (state_of versions x) (d (state_of versions x)).calls h) (state_of versions y)
