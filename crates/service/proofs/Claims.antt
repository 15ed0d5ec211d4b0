-- What certifying and settling an item do, by what stands there.
use Rattle.std.proofs.Common.{◌≡◌, ℕ, Bool, true, false, cond, [], ◌∷◌, set, Some, None, Ok, Err, Option, is_err, sym, refl, ap, subst, arith}
use Rattle.std.proofs.lemmas.Bool.{false≢true}
use Rattle.service.specs.declared.refusals.Refusal.{Refusal}
use Rattle.service.specs.declared.calls.Answer.TheVariants.{Done}
use Rattle.service.specs.declared.calls.Call.TheVariants.{Certify, Settle}
use Rattle.service.specs.declared.certification.Claim.{Claim}
use Rattle.service.specs.declared.tools.Entry.{Entry}
use Rattle.service.specs.declared.tools.Phase.{Phase}
use Rattle.service.specs.declared.tools.Phase.TheVariants.{Failed, Committed}
use Rattle.service.specs.Refusals.{Rules, refusal, rejects}
use Rattle.service.specs.Certification.{Found, certification, judged}
use Rattle.service.specs.Entries.{is_held, find, settled_version}
use Rattle.service.specs.Service.{State, seat, is, version, tests, outcome, next, next_reads, next_writes, next_versions, with_read, with_write, without_read, without_write, reseat, phased, claim, meets}

-- only rejections
abbrev Harsh : Rules → Type 0
Harsh [] = Unit
Harsh (r ∷ rs) = (rejects r.1 ≡ true) × Harsh rs

harsh_refusal : (rs : Rules) → Harsh rs → (r : Refusal) → refusal rs ≡ Some r → rejects r ≡ true
harsh_refusal [] m r h = let z : ◌≡◌ {A = ℕ} 0 1 = cc in absurd (omega arith)
harsh_refusal (x ∷ xs) m r h = go (harsh_refusal xs m.1 r) x.0 h
  where
    go : (refusal xs ≡ Some r → rejects r ≡ true) → (b : Bool) → cond b (Some x.1) (refusal xs) ≡ Some r → rejects r ≡ true
    go ih true q = let e : x.1 ≡ r = cc in subst (λ (z : Refusal). rejects z ≡ true) e m.0
    go ih false q = ih q

rejection_rejects : (c : Claim) (f : Found) (r : Refusal) → refusal (certification c f) ≡ Some r → rejects r ≡ true
rejection_rejects c f r h = harsh_refusal (certification c f) (refl, (refl, (refl, (refl, (refl, tt))))) r h

pub judged_err : (o : Option Refusal) (r : Refusal) → Err r ≡ judged o → o ≡ Some r
judged_err None r h = absurd (false≢true (sym (ap is_err h)))
judged_err (Some q) r h = let e : r ≡ q = cc in ap Some (sym e)

pub judged_ok : (o : Option Refusal) (u : Unit {0}) → Ok u ≡ judged o → o ≡ None
judged_ok None u h = refl
judged_ok (Some q) u h = absurd (false≢true (ap is_err h))

module _ (s : State) (t i : ℕ) where
  module _ (e : Entry) (f : find i (seat s t).entries ≡ Some e) where
    -- under the stamp st
    module _ (st : ℕ) (p : (seat s t).stamp ≡ st) where
      under : (o : Option Refusal) → refusal (certification (claim e st) (meets s i st)) ≡ o → refusal (certification (claim e (seat s t).stamp) (meets s i (seat s t).stamp)) ≡ o
      under o q = subst (λ (n : ℕ). refusal (certification (claim e n) (meets s i n)) ≡ o) (sym p) q

      pub certify_rejected : is_held e.stand ≡ false → (r : Refusal) → refusal (certification (claim e st) (meets s i st)) ≡ Some r
          → outcome s (seat s t) (Certify t i) (refusal (tests s (seat s t) (Certify t i))) ≡ (Err r, reseat s t (phased (seat s t) Failed))
      certify_rejected h r q = rw (f, h, under (Some r) q, rejection_rejects (claim e st) (meets s i st) r q)

      pub certify_honoured : is_held e.stand ≡ false → refusal (certification (claim e st) (meets s i st)) ≡ None
          → outcome s (seat s t) (Certify t i) (refusal (tests s (seat s t) (Certify t i))) ≡ (Ok Done, next s (seat s t) (Certify t i))
      certify_honoured h q = let z : refusal (tests s (seat s t) (Certify t i)) ≡ None = rw (f, h, under None q) in ap (outcome s (seat s t) (Certify t i)) z

      pub certify_reads : next_reads s (seat s t) (Certify t i) ≡ with_read t i st e s.reads
      certify_reads = rw (f, p)

      pub certify_writes : next_writes s (seat s t) (Certify t i) ≡ with_write t i st e s.writes
      certify_writes = rw (f, p)

      pub settle_reads : next_reads s (seat s t) (Settle t i) ≡ without_read i st e s.reads
      settle_reads = rw (f, p)

      pub settle_writes : next_writes s (seat s t) (Settle t i) ≡ without_write i st e s.writes
      settle_writes = rw (f, p)

      pub settle_versions : (h : Phase) → (seat s t).phase ≡ h
          → next_versions s (seat s t) (Settle t i) ≡ cond (is h Committed) (set s.versions i (settled_version e st (version s.versions i))) s.versions
      settle_versions h q = rw (f, p, q)

    pub settle_held : is_held e.stand ≡ true → outcome s (seat s t) (Settle t i) (refusal (tests s (seat s t) (Settle t i))) ≡ (Ok Done, next s (seat s t) (Settle t i))
    settle_held h = let z : refusal (tests s (seat s t) (Settle t i)) ≡ None = rw (f, h) in ap (outcome s (seat s t) (Settle t i)) z
