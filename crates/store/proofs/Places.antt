-- What a write to a buffer leaves of its parts. Assumes nothing.
use Rattle.std.proofs.Common.{◌≡◌, ℕ, ◌+◌, ◌-◌, ◌≤◌, ◌⊎◌, List, ◌++◌, length, take, drop, sym, ap, ◌∙◌, inl, inr, arith}
use Rattle.std.proofs.lemmas.List.{places, same_lists, length-append, length-take, length-take-le, length-drop, append_assoc, take_at, drop_at, drop-drop}
use Rattle.store.specs.Bytes.{part, over}

pub length_over : (at : ℕ) (new buffer : List ℕ) → at + length new ≤ length buffer → length (over at new buffer) ≡ length buffer
length_over at new buffer fits = simp (length-append, length-take, length-drop) (omega arith)

pub length_part : (at size : ℕ) (buffer : List ℕ) → at + size ≤ length buffer → length (part at size buffer) ≡ size
length_part at size buffer fits = simp (length-take, length-drop) (omega arith)

-- what is written may be known by another name
pub over_new :
    (at : ℕ) (buffer : List ℕ) {new same after : List ℕ}
    → after ≡ over at new buffer → new ≡ same → after ≡ over at same buffer
over_new at buffer is e = is ∙ ap (λ l. over at l buffer) e

-- the part that was written
pub part_over_same :
    (at : ℕ) (new buffer : List ℕ)
    → at + length new ≤ length buffer → part at (length new) (over at new buffer) ≡ new
part_over_same at new buffer fits =
    same_lists _ _ (simp (length-take, length-drop, length-append) (omega arith)) (λ k d h. grind (arith, places))

-- a part that was not
pub part_over_other :
    (at size from : ℕ) (new buffer : List ℕ)
    → from + length new ≤ length buffer
    → (at + size ≤ from) ⊎ (from + length new ≤ at)
    → part at size (over from new buffer) ≡ part at size buffer
part_over_other at size from new buffer fits (inl before) =
    same_lists _ _ (simp (length-take, length-drop, length-append) (omega arith)) (λ k d h. grind (arith, places))
part_over_other at size from new buffer fits (inr behind) =
    same_lists _ _ (simp (length-take, length-drop, length-append) (omega arith)) (λ k d h. grind (arith, places))

-- what stands before and after the bytes that were written
pub take_over :
    (at n : ℕ) (new buffer : List ℕ) → at ≤ length buffer → n ≡ at + length new → take n (over at new buffer) ≡ take at buffer ++ new
take_over at n new buffer within is =
    ap (take n) (sym (append_assoc (take at buffer) new (drop (at + length new) buffer)))
    ∙ take_at (take at buffer ++ new) (drop (at + length new) buffer) n (length-append (take at buffer) new ∙ omega (arith, length-take-le at buffer within))

pub drop_over :
    (at n : ℕ) (new buffer : List ℕ) → at ≤ length buffer → at + length new ≤ n → drop n (over at new buffer) ≡ drop n buffer
drop_over at n new buffer within past =
    let seam : ℕ = at + length new in
    let rest : drop seam (over at new buffer) ≡ drop seam buffer =
    ap (drop seam) (sym (append_assoc (take at buffer) new (drop seam buffer)))
    ∙ drop_at (take at buffer ++ new) (drop seam buffer) seam (length-append (take at buffer) new ∙ omega (arith, length-take-le at buffer within)) in
    let more : seam + (n - seam) ≡ n = omega arith in
    ap (λ k. drop k (over at new buffer)) (sym more)
    ∙ sym (drop-drop (n - seam) seam (over at new buffer))
    ∙ ap (drop (n - seam)) rest
    ∙ drop-drop (n - seam) seam buffer
    ∙ ap (λ k. drop k buffer) more
