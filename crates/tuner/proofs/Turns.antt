-- What a call leaves of the seats, for a tool whose transaction is in hand.
use Rattle.std.proofs.Common.{◌≡◌, ℕ, ◌<◌, ◌+◌, ◌*◌, Bool, true, false, cond, eqb, ◌&&◌, List, [], ◌∷◌, map, length, Some, None, Ok, Err, Option, Result, sym, refl, ap, ◌∙◌, subst, arith}
use Rattle.std.proofs.lemmas.List.{length-set, get_or-set_same, get_or-set_other}
use Rattle.std.proofs.lemmas.Bool.{and_from, eq-eqb}
use Rattle.service.specs.declared.refusals.Refusal.{Refusal}
use Rattle.service.specs.declared.calls.Answer.{Answer}
use Rattle.service.specs.declared.calls.Answer.TheVariants.{Stamp}
use Rattle.service.specs.declared.calls.Call.{Call}
use Rattle.service.specs.declared.calls.Call.TheVariants.{Close, Certify}
use Rattle.service.specs.declared.tools.Phase.TheVariants.{Open, Closed, Failed}
use Rattle.service.specs.Refusals.{refusal, rejects}
use Rattle.service.specs.Service.{Seat, State, fresh, seat, is, tool_of, counter, rules, answer, phased, next_seat, next, reseat, outcome, Does}
use Rattle.service.proofs.Phases.{clash}
use Rattle.service.proofs.Rules.{rejected, clear, tool_below}
use Rattle.history.proofs.Laws.{refusals_keep}
use Rattle.held.specs.Calls.{after, without, if_accepted, up_to_refusal, refusal_or, first_refusal}
use Rattle.held.specs.Held.{is_rejection}
use Rattle.tuner.specs.Hands.{IsOpen, IsClosed}

abbrev Stepped : Type 0
Stepped = Result Answer Refusal × State

-- an accepted call, and a refused one
pub was_accepted : (s s' : State) (c : Call) (a : Answer) → Does s c (Ok a) s'
    → (refusal (rules s c) ≡ None) × (answer s (seat s (tool_of c)) c ≡ a) × (next s (seat s (tool_of c)) c ≡ s')
was_accepted s s' c a d = go (refusal (rules s c)) refl d
  where
    go : (o : Option Refusal) → refusal (rules s c) ≡ o → outcome s (seat s (tool_of c)) c o ≡ (Ok a, s')
        → (refusal (rules s c) ≡ None) × (answer s (seat s (tool_of c)) c ≡ a) × (next s (seat s (tool_of c)) c ≡ s')
    go None h q =
        let e : ◌≡◌ {A = Result Answer Refusal} (Ok (answer s (seat s (tool_of c)) c)) (Ok a) = ap (λ (p : Stepped). p.0) q in
        (h, cc, ap (λ (p : Stepped). p.1) q)
    go (Some r) h q =
        let e : ◌≡◌ {A = Result Answer Refusal} (Err r) (Ok a) = ap (λ (p : Stepped). p.0) q in
        cc

pub was_refused : (s s' : State) (c : Call) (r : Refusal) → Does s c (Err r) s' → refusal (rules s c) ≡ Some r
was_refused s s' c r d = go (refusal (rules s c)) refl d
  where
    go : (o : Option Refusal) → refusal (rules s c) ≡ o → outcome s (seat s (tool_of c)) c o ≡ (Err r, s') → refusal (rules s c) ≡ Some r
    go None h q =
        let e : ◌≡◌ {A = Result Answer Refusal} (Ok (answer s (seat s (tool_of c)) c)) (Err r) = ap (λ (p : Stepped). p.0) q in
        cc
    go (Some n) h q =
        let e : ◌≡◌ {A = Result Answer Refusal} (Err n) (Err r) = ap (λ (p : Stepped). p.0) q in
        let m : n ≡ r = cc in
        h ∙ ap (λ (y : Refusal). Some y) m

-- a call of another tool leaves the seat
pub elsewhere : (s s' : State) (c : Call) (a : Result Answer Refusal) → Does s c a s' → (t : ℕ) → (t ≡ tool_of c → ⊥) → seat s' t ≡ seat s t
elsewhere s s' c a d t n = subst (λ (p : Stepped). seat p.1 t ≡ seat s t) d (go (refusal (rules s c)))
  where
    kept : (b : Bool) → seat (cond b (reseat s (tool_of c) (phased (seat s (tool_of c)) Failed)) s) t ≡ seat s t
    kept true = get_or-set_other s.seats (tool_of c) t (phased (seat s (tool_of c)) Failed) (fresh 0) n
    kept false = refl

    go : (o : Option Refusal) → seat (outcome s (seat s (tool_of c)) c o).1 t ≡ seat s t
    go None = get_or-set_other s.seats (tool_of c) t (next_seat s (seat s (tool_of c)) c) (fresh 0) n
    go (Some r) = kept (rejects r)

-- a refused call leaves an open transaction open
pub open_refused : (s s' : State) (c : Call) (r : Refusal) → Does s c (Err r) s' → IsOpen s (tool_of c) → IsOpen s' (tool_of c)
open_refused s s' c r d o = subst (λ (z : State). IsOpen z (tool_of c)) (sym (refusals_keep s c r s' d (go (rejects r) refl))) o
  where
    go : (b : Bool) → rejects r ≡ b → rejects r ≡ false
    go true h = absurd (clash (seat s (tool_of c)).phase Open Closed o.open_then (rejected s c r (was_refused s s' c r d) h).1 refl)
    go false h = h

-- an accepted one has a tool that there is, and leaves this seat
pub known : (s s' : State) (c : Call) (a : Answer) → Does s c (Ok a) s' → tool_of c < 16
known s s' c a d = tool_below (tool_of c) (clear (rules s c) (was_accepted s s' c a d).0).0

pub seated : (s s' : State) (c : Call) (a : Answer) → Does s c (Ok a) s' → tool_of c < length s.seats → seat s' (tool_of c) ≡ next_seat s (seat s (tool_of c)) c
seated s s' c a d l =
    ap (λ (z : State). seat z (tool_of c)) (sym (was_accepted s s' c a d).2)
    ∙ get_or-set_same s.seats (tool_of c) (next_seat s (seat s (tool_of c)) c) (fresh 0) l

pub open_accepted : (s s' : State) (c : Call) (a : Answer) → Does s c (Ok a) s' → tool_of c < length s.seats → (next_seat s (seat s (tool_of c)) c).phase ≡ Open → IsOpen s' (tool_of c)
open_accepted s s' c a d l h = record { known = known s s' c a d; open_then = ap (λ (z : Seat). z.phase) (seated s s' c a d l) ∙ h }

-- a closed transaction is under the stamp that was answered
pub close_accepted : (s s' : State) (t k st : ℕ) → Does s (Close t k) (Ok (Stamp st)) s' → t < length s.seats → IsClosed s' t st
close_accepted s s' t k st d l =
    let e : ◌≡◌ {A = Answer} (Stamp (counter (seat s t) k * 16 + t)) (Stamp st) = (was_accepted s s' (Close t k) (Stamp st) d).1 in
    let m : counter (seat s t) k * 16 + t ≡ st = cc in
    let z = seated s s' (Close t k) (Stamp st) d l in
    record {
      known = known s s' (Close t k) (Stamp st) d;
      closed_then = and_from _ _ (ap (λ (x : Seat). is x.phase Closed) z) (eq-eqb _ _ (ap (λ (x : Seat). x.stamp) z ∙ m));
    }

-- a certification that rejects nothing leaves the transaction closed
pub certify_keeps : (s : State) (t i st : ℕ) → t < length s.seats → IsClosed s t st → (o : Option Refusal) → is_rejection (without (outcome s (seat s t) (Certify t i) o).0) ≡ false → IsClosed (outcome s (seat s t) (Certify t i) o).1 t st
certify_keeps s t i st l k None n =
    let z = get_or-set_same s.seats t (next_seat s (seat s t) (Certify t i)) (fresh 0) l in
    record { known = k.known; closed_then = ap (λ (x : Seat). is x.phase Closed && eqb x.stamp st) z ∙ k.closed_then }
certify_keeps s t i st l k (Some r) n = subst (λ (b : Bool). IsClosed (cond b (reseat s t (phased (seat s t) Failed)) s) t st) (sym n) k

-- and so do several, up to the first that is refused
pub certifications_keep : (is : List ℕ) (s : State) (t st : ℕ) → length s.seats ≡ 16 → IsClosed s t st → is_rejection (first_refusal s (map (Certify t) is)) ≡ false
    → IsClosed (after s (up_to_refusal s (map (Certify t) is))) t st
certifications_keep [] s t st l k n = k
certifications_keep (i ∷ is) s t st l k n = go (λ s'. certifications_keep is s' t st) (refusal (rules s (Certify t i))) n
  where
    below : t < length s.seats
    below = let a = k.known in omega arith

    go : ((s' : State) → length s'.seats ≡ 16 → IsClosed s' t st → is_rejection (first_refusal s' (map (Certify t) is)) ≡ false → IsClosed (after s' (up_to_refusal s' (map (Certify t) is))) t st)
        → (o : Option Refusal)
        → is_rejection (refusal_or (outcome s (seat s t) (Certify t i) o).0 (first_refusal (outcome s (seat s t) (Certify t i) o).1 (map (Certify t) is))) ≡ false
        → IsClosed
        (after (outcome s (seat s t) (Certify t i) o).1 (if_accepted (outcome s (seat s t) (Certify t i) o).0 (up_to_refusal (outcome s (seat s t) (Certify t i) o).1 (map (Certify t) is))))
        t st
    go ih None m = ih (outcome s (seat s t) (Certify t i) None).1 (length-set s.seats t _ ∙ l) (certify_keeps s t i st below k None refl) m
    go ih (Some r) m = certify_keeps s t i st below k (Some r) m
