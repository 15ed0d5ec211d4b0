-- What writing a frame leaves in the buffer. Assumes nothing.
use Rattle.std.proofs.Common.{◌≡◌, ℕ, ◌+◌, ltb, List, length, take, drop, IfOk, Ok, Err, Result, sym, refl, ap, ◌∙◌, subst, ⊎_elim}
use Rattle.std.proofs.lemmas.List.{take_at}
use Rattle.std.proofs.lemmas.Bool.{cases_Bool, cond-true, cond-false}
use Rattle.store.specs.Bytes.{over}
use Rattle.frame.specs.declared.faults.Fault.{Fault}
use Rattle.frame.specs.declared.faults.Fault.TheVariants.{Room}
use Rattle.frame.specs.Drafts.{written}

-- where a length is answered, that many bytes of the buffer are the frame
pub written_takes :
    (frame buffer after : List ℕ) (r : Result ℕ Fault) (Q : List ℕ → Type 0)
    → ◌≡◌ {A = Result ℕ Fault × List ℕ} (r, after) (written frame buffer) → Q frame → IfOk r (λ n. Q (take n after))
written_takes frame buffer after r Q is q =
    ⊎_elim
    (λ e. let h = is ∙ cond-true (ltb (length buffer) (length frame)) (Err Room, buffer) (Ok (length frame), over 0 frame buffer) e in
    subst (λ (x : Result ℕ Fault). IfOk x (λ n. Q (take n after))) (sym (ap (λ (p : Result ℕ Fault × List ℕ). p.0) h)) tt)
    (λ e. let h = is ∙ cond-false (ltb (length buffer) (length frame)) (Err Room, buffer) (Ok (length frame), over 0 frame buffer) e in
    let left : take (length frame) after ≡ frame = ap (λ (p : Result ℕ Fault × List ℕ). take (length frame) p.1) h ∙ take_at frame (drop (0 + length frame) buffer) (length frame) refl in
    subst (λ (x : Result ℕ Fault). IfOk x (λ n. Q (take n after))) (sym (ap (λ (p : Result ℕ Fault × List ℕ). p.0) h)) (subst Q (sym left) q))
    (cases_Bool (ltb (length buffer) (length frame)))
