-- Replies: the answer, 0 or the number of a refusal, and after 0 what the call gives.
use Rattle.std.specs.Prelude.{◌≡◌, ℕ, cond, List, [], ◌∷◌, ◌++◌, Ok, Err, Result, ◌==◌}
use Rattle.service.specs.declared.calls.Call.{Call}
use Rattle.service.specs.declared.calls.Call.TheVariants.{Begin, Read, Write, Close, Certify, Commit, Abort, Settle}
use Rattle.service.specs.declared.calls.Answer.{Answer}
use Rattle.service.specs.declared.calls.Answer.TheVariants.{Done, Value, Stamp}
use Rattle.service.specs.declared.refusals.Refusal.{Refusal}
use Rattle.service.specs.declared.refusals.Refusal.TheVariants.{UnknownTool, WrongState, UnknownItem, TooManyEntries, TickTooLarge, CounterSpent, NoEntry, HasToken, VersionChanged, BehindWrite, WriteBetween, BehindRead, ReadStands, NotCertified, NoToken}
use Rattle.service.specs.Refusals.{number}
use Rattle.frame.specs.declared.faults.Fault.{Fault}
use Rattle.frame.specs.declared.faults.Fault.TheVariants.{Unknown}
use Rattle.frame.specs.declared.kinds.Kind.TheVariants as kind
use Rattle.frame.specs.Fields.{field, taken, bind}
use Rattle.frame.specs.Requests.{ended}
use Rattle.frame.specs.RoundTrip.{Bytes, Fits}

abbrev pub Reply : Type 0
Reply = Result Answer Refusal

abbrev pub given : Answer → List ℕ
given Done = []
given (Value v) = field kind.Value v
given (Stamp s) = field kind.Stamp s

abbrev pub reply_of : Reply → List ℕ
reply_of (Ok a) = field kind.Answer 0 ++ given a
reply_of (Err r) = field kind.Answer (number r)

-- what a call gives when it is accepted
pub data Gives : Type 0 where
  nothing : Gives
  value : Gives
  stamp : Gives

abbrev pub gives : Call → Gives
gives (Begin t) = nothing
gives (Read t i) = value
gives (Write t i v) = nothing
gives (Close t k) = stamp
gives (Certify t i) = nothing
gives (Commit t) = nothing
gives (Abort t) = nothing
gives (Settle t i) = nothing

abbrev pub taken_answer : Gives → List ℕ → Result (Answer × List ℕ) Fault
taken_answer nothing rest = Ok (Done, rest)
taken_answer value rest = bind (taken kind.Value rest) (λ v. Ok (Value v.0, v.1))
taken_answer stamp rest = bind (taken kind.Stamp rest) (λ s. Ok (Stamp s.0, s.1))

-- the first of these refusals with that number
abbrev pub first_with : ℕ → List Refusal → Result Refusal Fault
first_with n [] = Err Unknown
first_with n (r ∷ rs) = cond (number r == n) (Ok r) (first_with n rs)

abbrev pub refusals : List Refusal
refusals =
    UnknownTool ∷ WrongState ∷ UnknownItem ∷ TooManyEntries ∷ TickTooLarge ∷ CounterSpent ∷ NoEntry ∷ HasToken
    ∷ VersionChanged ∷ BehindWrite ∷ WriteBetween ∷ BehindRead ∷ ReadStands ∷ NotCertified ∷ NoToken ∷ []

-- the refusal with that number
unfoldable pub refusal_with : ℕ → Result Refusal Fault
refusal_with n = first_with n refusals

abbrev pub taken_reply : Call → ℕ → List ℕ → Result (Reply × List ℕ) Fault
taken_reply c n rest = cond (n == 0) (bind (taken_answer (gives c) rest) (λ a. Ok (Ok a.0, a.1))) (bind (refusal_with n) (λ r. Ok (Err r, rest)))

-- the reply to that call that a frame holds
abbrev pub read_reply : Call → List ℕ → Result Reply Fault
read_reply c frame = bind (taken kind.Answer frame) (λ n. bind (taken_reply c n.0 n.1) ended)

-- a reply that the call may have
abbrev pub carries : Answer → Gives
carries Done = nothing
carries (Value v) = value
carries (Stamp s) = stamp

abbrev pub Suits : Call → Reply → Type 0
Suits c (Ok a) = carries a ≡ gives c
Suits c (Err r) = Unit {0}

-- its number fits its field
abbrev pub ReplyFits : Reply → Type 0
ReplyFits (Ok Done) = Unit {0}
ReplyFits (Ok (Value v)) = Fits kind.Value v
ReplyFits (Ok (Stamp s)) = Fits kind.Stamp s
ReplyFits (Err r) = Unit {0}

-- reading a reply's frame gives the reply, a frame that is read is that of what was read, and no two replies share a frame
pub record RepliesOneFrame : Type 0 where
  pub read_written : (c : Call) (a : Reply) → Suits c a → ReplyFits a → read_reply c (reply_of a) ≡ Ok a
  pub written_read : (c : Call) (frame : List ℕ) (a : Reply) → Bytes frame → read_reply c frame ≡ Ok a → (reply_of a ≡ frame) × Suits c a
  pub apart : (a b : Reply) → ReplyFits a → ReplyFits b → reply_of a ≡ reply_of b → a ≡ b
