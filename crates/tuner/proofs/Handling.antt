-- The same, of a service and of operations on whole transactions.
use Rattle.std.proofs.Common.{◌≡◌, ℕ, ◌<◌, Bool, true, false, cond, List, [], ◌∷◌, ◌++◌, length, Ok, Err, Result, sym, refl, ap, ◌∙◌, subst, arith}
use Rattle.std.proofs.lemmas.List.{append-nil}
use mathlib.Core.Logic.{∥∥₁_elim}
use Rattle.std.proofs.Math.Nat.{ℕ_set}
use native.Mathlib.Bridge.{le_prop}
use Rattle.store.specs.declared.Version.{Version}
use Rattle.service.specs.declared.refusals.Refusal.{Refusal}
use Rattle.service.specs.declared.refusals.Refusal.TheVariants.{WrongState}
use Rattle.service.specs.declared.calls.Answer.{Answer}
use Rattle.service.specs.declared.calls.Answer.TheVariants.{Stamp}
use Rattle.service.specs.declared.calls.Call.{Call}
use Rattle.service.specs.declared.calls.Call.TheVariants.{Begin, Read, Write, Close, Commit, Abort}
use Rattle.service.specs.declared.services.Service.{Service}
use Rattle.service.specs.Refusals.{rejects}
use Rattle.service.specs.Service.{State, seat, tool_of, rules, step, Does}
use Rattle.service.specs.Services.{state_of, Makes}
use Rattle.service.specs.Views.{bare_items}
use Rattle.service.proofs.Rules.{mild_refusal}
use Rattle.history.proofs.Laws.{refusals_keep}
use Rattle.held.specs.declared.transactions.Closed.{Closed}
use Rattle.held.specs.declared.transactions.Grant.{Grant}
use Rattle.held.specs.declared.transactions.Uncertified.{Uncertified}
use Rattle.held.specs.declared.transactions.Uncertified.TheVariants.{Rejected, Refused}
use Rattle.held.specs.Calls.{after, without, if_accepted, up_to_refusal, first_refusal, Performs}
use Rattle.held.specs.Held.{only_if, or_back, is_rejection, granted, certifications, certifying, certifies_all, settlements, settling, settles_all, commits_all}
use Rattle.held.proofs.Made.{made_after}
use Rattle.tuner.specs.Hands.{IsOpen, IsClosed}
use Rattle.tuner.proofs.Turns.{was_refused, elsewhere, open_refused, known, open_accepted, close_accepted, certifications_keep}

module _ {S : Type 0} (versions : S → List Version) where
  -- each of the sixteen tools has a seat
  pub sixteen : (x : Service S) (t : ℕ) → t < 16 → t < length (state_of versions x).seats
  sixteen x t h = ∥∥₁_elim x.lawful le_prop (λ s. let a = s.sixteen in omega arith)

  all_seats : (x : Service S) → length (state_of versions x).seats ≡ 16
  all_seats x = ∥∥₁_elim x.lawful (ℕ_set _ _) (λ s. s.sixteen)

  -- a call of another tool leaves the seat
  pub other_made : (x y : Service S) (c : Call) (a : Result Answer Refusal) → Makes versions x c a y → (t : ℕ) → (t ≡ tool_of c → ⊥) → seat (state_of versions y) t ≡ seat (state_of versions x) t
  other_made x y c a m t n = elsewhere (state_of versions x) (state_of versions y) c a m.does t n

  pub open_begun : (x y : Service S) (t : ℕ) (a : Answer) → Makes versions x (Begin t) (Ok a) y → IsOpen (state_of versions y) t
  open_begun x y t a m =
      let l = sixteen x t (known (state_of versions x) (state_of versions y) (Begin t) a m.does) in
      open_accepted (state_of versions x) (state_of versions y) (Begin t) a m.does l refl

  pub open_read : (x y : Service S) (t i : ℕ) (a : Result Answer Refusal) → Makes versions x (Read t i) a y → IsOpen (state_of versions x) t → IsOpen (state_of versions y) t
  open_read x y t i (Ok a) m o = open_accepted (state_of versions x) (state_of versions y) (Read t i) a m.does (sixteen x t o.known) o.open_then
  open_read x y t i (Err r) m o = open_refused (state_of versions x) (state_of versions y) (Read t i) r m.does o

  pub open_written : (x y : Service S) (t i v : ℕ) (a : Result Answer Refusal) → Makes versions x (Write t i v) a y → IsOpen (state_of versions x) t → IsOpen (state_of versions y) t
  open_written x y t i v (Ok a) m o = open_accepted (state_of versions x) (state_of versions y) (Write t i v) a m.does (sixteen x t o.known) o.open_then
  open_written x y t i v (Err r) m o = open_refused (state_of versions x) (state_of versions y) (Write t i v) r m.does o

  pub closed_from : (x y : Service S) (t k st : ℕ) → Makes versions x (Close t k) (Ok (Stamp st)) y → IsOpen (state_of versions x) t → IsClosed (state_of versions y) t st
  closed_from x y t k st m o = close_accepted (state_of versions x) (state_of versions y) t k st m.does (sixteen x t o.known)

  -- a refused commit leaves the transaction closed
  pub commit_keeps : (x y : Service S) (g : Grant) (p : Refusal × Grant) → Performs versions x (commits_all g) (Err p) y → IsClosed (state_of versions x) g.tool g.stamp → IsClosed (state_of versions y) p.1.tool p.1.stamp
  commit_keeps x y g p m k =
      let s = state_of versions x in
      go (step s (Commit g.tool)).0 refl (m.answer ∙ ap (λ (b : Bool). (only_if b (Err (WrongState, g)) (settles_all g (Commit g.tool) s)).answer) k.closed_then)
    where
      go : (a : Result Answer Refusal) → (step (state_of versions x) (Commit g.tool)).0 ≡ a → ◌≡◌ {A = Result (Unit {0}) (Refusal × Grant)} (Err p) (or_back g (without a)) → IsClosed (state_of versions y) p.1.tool p.1.stamp
      go (Ok a) h q = cc
      go (Err r) h q =
          let s = state_of versions x in
          let c = Commit g.tool in
          let e : p.1 ≡ g = cc in
          let d : Does s c (Err r) (step s c).1 = ap (λ (a : Result Answer Refusal). (a, (step s c).1)) h in
          let stays : (step s c).1 ≡ s = refusals_keep s c r (step s c).1 d (mild_refusal (rules s c) (refl, (refl, (refl, tt))) r (was_refused s (step s c).1 c r d)) in
          let calls : (commits_all g s).calls ≡ c ∷ [] =
          ap (λ (b : Bool). (only_if b (Err (WrongState, g)) (settles_all g c s)).calls) k.closed_then
          ∙ ap (λ (a : Result Answer Refusal). c ∷ if_accepted a (settlements g.tool (step s c).1)) h in
          let now : s ≡ state_of versions y = sym stays ∙ (sym (ap (after s) calls) ∙ made_after versions m.made) in
          subst (λ (z : State). IsClosed z p.1.tool p.1.stamp) now (subst (λ (v : Grant). IsClosed s v.tool v.stamp) (sym e) k)

  -- certifying everything leaves it closed, unless it is rejected
  module _ (x y : Service S) (h : Closed) (k : IsClosed (state_of versions x) h.tool h.stamp) where
    still : (a : Result Grant Uncertified) → Performs versions x (certifies_all h) a y → is_rejection (first_refusal (state_of versions x) (certifications h.tool (state_of versions x))) ≡ false
        → IsClosed (state_of versions y) h.tool h.stamp
    still a m n =
        let s = state_of versions x in
        let cs = certifications h.tool s in
        let calls : (certifies_all h s).calls ≡ up_to_refusal s cs =
        ap (λ (b : Bool). (only_if b (Err (Refused WrongState h)) (certifying h s)).calls) k.closed_then
        ∙ (ap (λ (b : Bool). up_to_refusal s cs ++ cond b (settling (Abort h.tool) (after s (up_to_refusal s cs))) []) n ∙ append-nil (up_to_refusal s cs)) in
        subst (λ (z : State). IsClosed z h.tool h.stamp) (sym (ap (after s) calls) ∙ made_after versions m.made)
        (certifications_keep (bare_items s h.tool) s h.tool h.stamp (all_seats x) k n)

    answered : (a : Result Grant Uncertified) → Performs versions x (certifies_all h) a y → a ≡ granted h (first_refusal (state_of versions x) (certifications h.tool (state_of versions x)))
    answered a m =
        let s = state_of versions x in
        m.answer ∙ ap (λ (b : Bool). (only_if b (Err (Refused WrongState h)) (certifying h s)).answer) k.closed_then

    pub certified_keeps : (g : Grant) → Performs versions x (certifies_all h) (Ok g) y → IsClosed (state_of versions y) g.tool g.stamp
    certified_keeps g m = go (first_refusal (state_of versions x) (certifications h.tool (state_of versions x))) refl (answered (Ok g) m)
      where
        go : (o : Result (Unit {0}) Refusal) → first_refusal (state_of versions x) (certifications h.tool (state_of versions x)) ≡ o → ◌≡◌ {A = Result Grant Uncertified} (Ok g) (granted h o) → IsClosed (state_of versions y) g.tool g.stamp
        go (Ok u) f q =
            let e : g ≡ record { tool = h.tool; stamp = h.stamp } = cc in
            subst (λ (v : Grant). IsClosed (state_of versions y) v.tool v.stamp) (sym e) (still (Ok g) m (ap is_rejection f))
        go (Err r) f q = cc

    pub refused_keeps : (r : Refusal) (c : Closed) → Performs versions x (certifies_all h) (Err (Refused r c)) y → IsClosed (state_of versions y) c.tool c.stamp
    refused_keeps r c m = go (first_refusal (state_of versions x) (certifications h.tool (state_of versions x))) refl (answered (Err (Refused r c)) m)
      where
        back : (n : Refusal) (b : Bool) → rejects n ≡ b → ◌≡◌ {A = Result Grant Uncertified} (Err (Refused r c)) (Err (cond b (Rejected n) (Refused n h))) → (rejects n ≡ false) × (c ≡ h)
        back n true f q = cc
        back n false f q = (f, cc)

        go : (o : Result (Unit {0}) Refusal) → first_refusal (state_of versions x) (certifications h.tool (state_of versions x)) ≡ o → ◌≡◌ {A = Result Grant Uncertified} (Err (Refused r c)) (granted h o) → IsClosed (state_of versions y) c.tool c.stamp
        go (Ok u) f q = cc
        go (Err n) f q =
            let e = back n (rejects n) refl q in
            subst (λ (v : Closed). IsClosed (state_of versions y) v.tool v.stamp) (sym e.1) (still (Err (Refused r c)) m (ap is_rejection f ∙ e.0))
