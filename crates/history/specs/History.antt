-- Histories of calls with their answers. In every list of what happened the latest comes first.
use Rattle.std.specs.Prelude.{ℕ, Bool, true, false, ◌||◌, List, [], ◌∷◌, Result, ◌==◌}
use Rattle.service.specs.declared.refusals.Refusal.{Refusal}
use Rattle.service.specs.declared.calls.Call.{Call}
use Rattle.service.specs.declared.calls.Call.TheVariants.{Begin, Read, Write, Close, Certify, Commit, Abort, Settle}
use Rattle.service.specs.declared.calls.Answer.{Answer}

abbrev pub Event : Type 0
Event = Call × Result Answer Refusal

abbrev pub History : Type 0
History = List Event

-- a call that was accepted, and its answer
abbrev pub Accepted : Type 0
Accepted = Call × Answer

-- all that the serial run looks at in a call
pub data Kind : Type 0 where
  Begins Commits Other : Kind
  Reads Settles : ℕ → Kind
  Writes : ℕ → ℕ → Kind

abbrev pub kind : Call → Kind
kind (Begin t) = Begins
kind (Read t i) = Reads i
kind (Write t i v) = Writes i v
kind (Close t k) = Other
kind (Certify t i) = Other
kind (Commit t) = Commits
kind (Abort t) = Other
kind (Settle t i) = Settles i

abbrev pub begins : Kind → Bool
begins Begins = true
begins Commits = false
begins Other = false
begins (Reads i) = false
begins (Settles i) = false
begins (Writes i v) = false

abbrev pub commits : Kind → Bool
commits Begins = false
commits Commits = true
commits Other = false
commits (Reads i) = false
commits (Settles i) = false
commits (Writes i v) = false

-- does it read or write item j
abbrev pub uses : ℕ → Kind → Bool
uses j Begins = false
uses j Commits = false
uses j Other = false
uses j (Reads i) = j == i
uses j (Settles i) = false
uses j (Writes i v) = j == i

abbrev pub settles : ℕ → Kind → Bool
settles j Begins = false
settles j Commits = false
settles j Other = false
settles j (Reads i) = false
settles j (Settles i) = j == i
settles j (Writes i v) = false

-- is a call of such a kind among them
abbrev pub among : (Kind → Bool) → List Accepted → Bool
among f [] = false
among f (e ∷ es) = f (kind e.0) || among f es
