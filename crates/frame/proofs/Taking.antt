-- A field at the front of a frame. Assumes nothing.
use Rattle.std.proofs.Common.{◌≡◌, ℕ, ◌+◌, ◌*◌, ◌<◌, ◌≤◌, not, eqb, ltb, List, length, get_or, drop, Ok, ◌∙◌, arith}
use Rattle.std.proofs.lemmas.Grind.{common_steps}
use Rattle.std.proofs.lemmas.Bool.{le-ltb, eq-eqb, not_from_true, cond-false}
use Rattle.store.specs.Bytes.{number_in, part}
use Rattle.frame.specs.declared.kinds.Kind.{Kind}
use Rattle.frame.specs.Fields.{tag, width, taken}

pub some_width : (k : Kind) → (0 < width k) × (width k ≤ 8)
some_width k = grind (arith, common_steps)

pub found :
    (k : Kind) (frame : List ℕ)
    → 3 + width k ≤ length frame → get_or frame 0 0 ≡ tag k → number_in (part 1 2 frame) ≡ width k
    → taken k frame ≡ Ok (number_in (part 3 (width k) frame), drop (3 + width k) frame)
found k frame long tagged sized =
    cond-false (ltb (length frame) 3) _ _ (le-ltb _ _ (omega arith))
    ∙ (cond-false (not (eqb (get_or frame 0 0) (tag k))) _ _ (not_from_true _ (eq-eqb _ _ tagged))
    ∙ (cond-false (not (eqb (number_in (part 1 2 frame)) (width k))) _ _ (not_from_true _ (eq-eqb _ _ sized))
    ∙ cond-false (ltb (length frame) (3 + width k)) _ _ (le-ltb _ _ long)))

pub length_bytes : (frame : List ℕ) → 3 ≤ length frame → number_in (part 1 2 frame) ≡ get_or frame 1 0 * 256 + get_or frame 2 0
length_bytes frame long = grind (arith, common_steps)
