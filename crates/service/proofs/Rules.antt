-- What an accepted call and a rejected certification tell of the tests.
use Rattle.std.proofs.Common.{◌≡◌, ℕ, ◌<◌, Bool, true, false, cond, not, ltb, ◌⊎◌, [], ◌∷◌, Some, None, Option, sym, refl, subst, inl, inr, arith}
use Rattle.std.proofs.lemmas.Bool.{both_ways, not-false, ltb-false}
use Rattle.service.specs.declared.refusals.Refusal.{Refusal}
use Rattle.service.specs.declared.refusals.Refusal.TheVariants.{UnknownTool, WrongState}
use Rattle.service.specs.declared.calls.Call.{Call}
use Rattle.service.specs.declared.calls.Call.TheVariants.{Begin, Read, Write, Close, Certify, Commit, Abort, Settle}
use Rattle.service.specs.declared.tools.Phase.{Phase}
use Rattle.service.specs.declared.tools.Phase.TheVariants.{Closed}
use Rattle.service.specs.Refusals.{Rules, refusal, rejects}
use Rattle.service.specs.Service.{Seat, State, seat, tool_of, allowed, tests, rules}
use Rattle.service.proofs.Phases.{is_true}

-- no test is true
abbrev pub Clear : Rules → Type 0
Clear [] = Unit
Clear (r ∷ rs) = (r.0 ≡ false) × Clear rs

no_refusal : (r : Refusal) → ◌≡◌ {A = Option Refusal} (Some r) None → ⊥
no_refusal r h = let z : ◌≡◌ {A = ℕ} 0 1 = cc in omega arith

same_refusal : (a b : Refusal) → ◌≡◌ {A = Option Refusal} (Some a) (Some b) → a ≡ b
same_refusal a b h = cc

pub clear : (rs : Rules) → refusal rs ≡ None → Clear rs
clear [] h = tt
clear (r ∷ rs) h = go (clear rs) r.0 refl h
  where
    go : (refusal rs ≡ None → Clear rs) → (b : Bool) → r.0 ≡ b → cond b (Some r.1) (refusal rs) ≡ None → (r.0 ≡ false) × Clear rs
    go ih true e q = absurd (no_refusal r.1 q)
    go ih false e q = (e, ih q)

pub tool_below : (t : ℕ) → ltb 15 t ≡ false → t < 16
tool_below t h = let a = ltb-false 15 t h in omega arith

-- no refusal among them rejects
abbrev pub Mild : Rules → Type 0
Mild [] = Unit
Mild (r ∷ rs) = (rejects r.1 ≡ false) × Mild rs

pub mild_refusal : (rs : Rules) → Mild rs → (r : Refusal) → refusal rs ≡ Some r → rejects r ≡ false
mild_refusal [] m r h = absurd (no_refusal r (sym h))
mild_refusal (x ∷ xs) m r h = go (mild_refusal xs m.1 r) x.0 h
  where
    go : (refusal xs ≡ Some r → rejects r ≡ false) → (b : Bool) → cond b (Some x.1) (refusal xs) ≡ Some r → rejects r ≡ false
    go ih true q = subst (λ (z : Refusal). rejects z ≡ false) (same_refusal x.1 r q) m.0
    go ih false q = ih q

-- only certification rejects, and only from closed
mild : (s : State) (x : Seat) (c : Call) → Mild (tests s x c) ⊎ ((p : Phase) → allowed c p ≡ true → p ≡ Closed)
mild s x (Begin t) = inl tt
mild s x (Read t i) = inl (refl, (refl, tt))
mild s x (Write t i v) = inl (refl, (refl, tt))
mild s x (Close t k) = inl (refl, (refl, tt))
mild s x (Certify t i) = inr (λ p h. is_true p Closed h)
mild s x (Commit t) = inl (refl, tt)
mild s x (Abort t) = inl tt
mild s x (Settle t i) = inl (refl, (refl, tt))

pub rejected : (s : State) (c : Call) (r : Refusal) → refusal (rules s c) ≡ Some r → rejects r ≡ true → (tool_of c < 16) × ((seat s (tool_of c)).phase ≡ Closed)
rejected s c r h f = go (ltb 15 (tool_of c)) refl (not (allowed c (seat s (tool_of c)).phase)) refl h
  where
    plain : (z : Refusal) → rejects z ≡ false → z ≡ r → ⊥
    plain z m q = both_ways (rejects r) (subst (λ (y : Refusal). rejects y ≡ false) q m) f

    closed : allowed c (seat s (tool_of c)).phase ≡ true → Mild (tests s (seat s (tool_of c)) c) ⊎ ((p : Phase) → allowed c p ≡ true → p ≡ Closed)
        → refusal (tests s (seat s (tool_of c)) c) ≡ Some r → (seat s (tool_of c)).phase ≡ Closed
    closed al (inl m) q = absurd (both_ways (rejects r) (mild_refusal (tests s (seat s (tool_of c)) c) m r q) f)
    closed al (inr k) q = k (seat s (tool_of c)).phase al

    go : (a : Bool) → ltb 15 (tool_of c) ≡ a → (b : Bool) → not (allowed c (seat s (tool_of c)).phase) ≡ b
        → cond a (Some UnknownTool) (cond b (Some WrongState) (refusal (tests s (seat s (tool_of c)) c))) ≡ Some r
        → (tool_of c < 16) × ((seat s (tool_of c)).phase ≡ Closed)
    go true p b q e = absurd (plain UnknownTool refl (same_refusal UnknownTool r e))
    go false p true q e = absurd (plain WrongState refl (same_refusal WrongState r e))
    go false p false q e = (tool_below (tool_of c) p, closed (not-false (allowed c (seat s (tool_of c)).phase) q) (mild s (seat s (tool_of c)) c) e)
