-- Phases told apart.
use Rattle.std.proofs.Common.{◌≡◌, ℕ, true, false, cond, eqb, ◌⊎◌, sym, refl, ap, ◌∙◌, subst, inl, inr}
use Rattle.std.proofs.lemmas.Bool.{eqb-true, eq-eqb, both_ways}
use Rattle.service.specs.declared.tools.Phase.{Phase}
use Rattle.service.specs.declared.tools.Phase.TheVariants.{Idle, Open, Closed, Failed, Committed, Aborting}
use Rattle.service.specs.Service.{phase_no, is}
use Rattle.service.specs.Sound.{Stamped}

decode : ℕ → Phase
decode n = cond (eqb n 0) Idle (cond (eqb n 1) Open (cond (eqb n 2) Closed (cond (eqb n 3) Failed (cond (eqb n 4) Committed Aborting))))

decode_no : (p : Phase) → decode (phase_no p) ≡ p
unfolding decode
decode_no Idle = refl
decode_no Open = refl
decode_no Closed = refl
decode_no Failed = refl
decode_no Committed = refl
decode_no Aborting = refl

pub is_true : (p q : Phase) → is p q ≡ true → p ≡ q
is_true p q h = sym (decode_no p) ∙ (ap decode (eqb-true (phase_no p) (phase_no q) h) ∙ decode_no q)

-- a phase is not two at once
pub clash : (p a b : Phase) → p ≡ a → p ≡ b → is a b ≡ false → ⊥
clash p a b h k d = both_ways (is a b) d (eq-eqb (phase_no a) (phase_no b) (ap phase_no (sym h ∙ k)))

pub stamped_at : (p q : Phase) → p ≡ q → Stamped q → Stamped p
stamped_at p q h l = subst Stamped (sym h) l

-- a stamped phase is neither idle nor open, and there is no other
pub not_early : (p : Phase) → Stamped p → (p ≡ Idle) ⊎ (p ≡ Open) → ⊥
not_early p l (inl h) = subst Stamped h l
not_early p l (inr h) = subst Stamped h l

pub late : (p : Phase) → ((p ≡ Idle) ⊎ (p ≡ Open) → ⊥) → Stamped p
late Idle n = n (inl refl)
late Open n = n (inr refl)
late Closed n = tt
late Failed n = tt
late Committed n = tt
late Aborting n = tt
