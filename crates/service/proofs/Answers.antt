-- What an accepted call answers is fixed by the call.
use Rattle.std.proofs.Common.{◌≡◌, ℕ, List, Some, None, Ok, Err, Option, Result, refl, ap, ◌∙◌, subst, arith}
use Rattle.store.specs.declared.Version.{Version}
use Rattle.service.specs.declared.refusals.Refusal.{Refusal}
use Rattle.service.specs.declared.calls.Call.{Call}
use Rattle.service.specs.declared.calls.Call.TheVariants.{Begin, Read, Write, Close, Certify, Commit, Abort, Settle}
use Rattle.service.specs.declared.calls.Answer.{Answer}
use Rattle.service.specs.declared.calls.Answer.TheVariants.{Done}
use Rattle.service.specs.declared.services.Service.{Service}
use Rattle.service.specs.Refusals.{refusal}
use Rattle.service.specs.Service.{State, Seat, seat, tool_of, rules, answer, outcome, Does}
use Rattle.service.specs.Services.{state_of, Makes, AnswersDone}

accepted_answer : (s s' : State) (c : Call) (a : Answer) → Does s c (Ok a) s' → a ≡ answer s (seat s (tool_of c)) c
accepted_answer s s' c a h = go (refusal (rules s c)) h
  where
    go : (o : Option Refusal) → outcome s (seat s (tool_of c)) c o ≡ (Ok a, s') → a ≡ answer s (seat s (tool_of c)) c
    go None q = let e : Ok (answer s (seat s (tool_of c)) c) ≡ Ok a = ap (λ (p : Result Answer Refusal × State). p.0) q in cc
    go (Some r) q =
        let e : Err r ≡ Ok a = ap (λ (p : Result Answer Refusal × State). p.0) q in
        let z : ◌≡◌ {A = ℕ} 0 1 = cc in
        absurd (omega arith)

answers_done : (s : State) (x : Seat) (c : Call) → AnswersDone c → answer s x c ≡ Done
answers_done s x (Begin t) d = refl
answers_done s x (Read t i) d = absurd d
answers_done s x (Write t i v) d = refl
answers_done s x (Close t k) d = absurd d
answers_done s x (Certify t i) d = refl
answers_done s x (Commit t) d = refl
answers_done s x (Abort t) d = refl
answers_done s x (Settle t i) d = refl

-- such a call makes what it says
pub finishes : {S : Type 0} (versions : S → List Version) (x y : Service S) (c : Call) (a : Answer) → Makes versions x c (Ok a) y → AnswersDone c → Makes versions x c (Ok Done) y
finishes versions x y c a m d =
    subst (λ (b : Answer). Makes versions x c (Ok b) y)
    (accepted_answer (state_of versions x) (state_of versions y) c a m.does ∙ answers_done (state_of versions x) (seat (state_of versions x) (tool_of c)) c d) m
