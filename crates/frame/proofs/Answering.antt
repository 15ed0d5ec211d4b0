-- What serving a frame comes to once its call is made.
use Rattle.std.proofs.Common.{◌≡◌, ℕ, ◌≤◌, cond, ltb, List, length, take, IfOk, Some, None, Ok, Err, Option, Result, sym, ap, ◌∙◌, subst, arith}
use Rattle.std.proofs.lemmas.Grind.{common_steps}
use Rattle.std.proofs.lemmas.Bool.{le-ltb, cond-false}
use Rattle.store.specs.declared.Version.{Version}
use Rattle.store.specs.Bytes.{over}
use Rattle.service.specs.declared.services.Service.{Service}
use Rattle.service.specs.declared.refusals.Refusal.{Refusal}
use Rattle.service.specs.declared.calls.Call.{Call}
use Rattle.service.specs.Refusals.{refusal}
use Rattle.service.specs.Service.{State, Seat, seat, tool_of, rules, answer, outcome, Does}
use Rattle.service.specs.Services.{state_of, Makes}
use Rattle.history.specs.Runs.{called}
use Rattle.history.proofs.Whole.{serial_order}
use Rattle.frame.specs.declared.faults.Fault.{Fault}
use Rattle.frame.specs.declared.faults.Fault.TheVariants.{Room}
use Rattle.frame.specs.Fields.{bind}
use Rattle.frame.specs.Drafts.{written}
use Rattle.frame.specs.Requests.{read_request}
use Rattle.frame.specs.Replies.{Reply, reply_of, read_reply, carries, gives, Suits}
use Rattle.frame.specs.Serving.{accepted, Serves, Answered}

-- an accepted call gives what its kind gives
gives_answer : (s : State) (x : Seat) (c : Call) → carries (answer s x c) ≡ gives c
gives_answer s x c = grind (arith, common_steps)

does_suits : (s : State) (c : Call) (a : Reply) (s' : State) → Does s c a s' → Suits c a
does_suits s c a s' h = go (refusal (rules s c)) h
  where
    go : (o : Option Refusal) → outcome s (seat s (tool_of c)) c o ≡ (a, s') → Suits c a
    go None h = subst (λ (x : Reply). Suits c x) (ap (λ (p : Reply × State). p.0) h) (gives_answer s (seat s (tool_of c)) c)
    go (Some r) h = subst (λ (x : Reply). Suits c x) (ap (λ (p : Reply × State). p.0) h) tt

reply_short : (a : Reply) → length (reply_of a) ≤ 15
reply_short a = grind (arith, common_steps)

pub served :
    {S : Type 0} (versions : S → List Version) (x y : Service S) (frame buffer after : List ℕ) (r : Result ℕ Fault) (c : Call) (a : Reply)
    → ◌≡◌ {A = Result Call Fault} (Ok c) (read_request frame) → 15 ≤ length buffer → Makes versions x c a y
    → ◌≡◌ {A = Result ℕ Fault × List ℕ} (r, after) (written (reply_of a) buffer)
    → IfOk r (λ n. (d : Call) → Suits d a → read_reply d (take n after) ≡ Ok a)
    → Serves versions x buffer r y after (accepted frame buffer)
served versions x y frame buffer after r c a reads room makes put back =
    let short = reply_short a in
    let all = put ∙ cond-false (ltb (length buffer) (length (reply_of a))) (Err Room, buffer) (Ok (length (reply_of a)), over 0 (reply_of a) buffer) (le-ltb _ _ (omega arith)) in
    let counts : r ≡ Ok (length (reply_of a)) = ap (λ (p : Result ℕ Fault × List ℕ). p.0) all in
    let takes : accepted frame buffer ≡ Ok c =
    ap (λ (q : Result Call Fault). bind q (λ d. cond (ltb (length buffer) 15) (Err Room) (Ok d))) (sym reads) ∙ cond-false (ltb (length buffer) 15) (Err Room) (Ok c) (le-ltb _ _ room) in
    let told = subst (λ (q : Result ℕ Fault). IfOk q (λ n. (d : Call) → Suits d a → read_reply d (take n after) ≡ Ok a)) counts back in
    let is : Answered versions x buffer r y after c a = record {
      makes = makes;
      counts = counts;
      writes = ap (λ (p : Result ℕ Fault × List ℕ). p.1) all;
      tells = told c (does_suits _ c a _ makes.does);
      runs = λ vs h run. let on = called c a (state_of versions y) run makes.does in record { run = on; law = serial_order vs _ _ on };
    } in
    subst (Serves versions x buffer r y after) (sym takes) (a, is)
