-- What a table means at an item, and after a put. Assumes nothing.
use Rattle.std.proofs.Common.{◌≡◌, ℕ, ◌+◌, ◌-◌, ◌*◌, ◌<◌, ◌≤◌, cond, eqb, List, length, set, take, drop, Some, None, sym, ap, ◌∙◌, inl, inr, ⊎_elim, arith}
use Rattle.std.specs.List.{slice_get}
use Rattle.std.proofs.lemmas.Bool.{cases_order, cond-true, eq-eqb}
use Rattle.store.specs.declared.Version.{Version}
use Rattle.store.specs.Bytes.{over}
use Rattle.store.specs.Packed.{packed, unpacked}
use Rattle.store.specs.Table.{table, version_at}
use Rattle.store.proofs.Made.{nth_made, set_made}
use Rattle.store.proofs.Places.{length_part, part_over_same, part_over_other}
use Rattle.store.proofs.RoundTrip.{Fits, unpacked_packed}

pub table_put :
    (buffer : List ℕ) (count item : ℕ) (v : Version)
    → 20 * count ≤ length buffer → item < count → Fits 4 v
    → table (over (20 * item) (packed v) buffer) count ≡ set (table buffer count) item v
table_put buffer count item v fits below small =
    set_made (version_at buffer) (version_at (over (20 * item) (packed v) buffer)) count item v
    (λ _. ap unpacked (part_over_same (20 * item) (packed v) buffer (omega arith)) ∙ unpacked_packed 4 v small)
    (λ j h apart. ap unpacked (part_over_other (20 * j) 20 (20 * item) (packed v) buffer (omega arith) (⊎_elim (λ e. absurd (apart e)) (⊎_elim (λ l. inl (omega arith)) (λ l. inr (omega arith))) (cases_order j item))))

-- the same in the words of the code: an item's record is unpacked
pub table_get :
    (buffer : List ℕ) (count item : ℕ) → 20 * count ≤ length buffer → item < count
    → slice_get (table buffer count) item
    ≡ cond (eqb (length (take (20 * item + 20 - 20 * item) (drop (20 * item) buffer))) 20) (Some (unpacked (take (20 * item + 20 - 20 * item) (drop (20 * item) buffer)))) None
table_get buffer count item fits below =
    let size : 20 * item + 20 - 20 * item ≡ 20 = omega arith in
    simp size
    (nth_made (version_at buffer) count item below
    ∙ sym (cond-true _ _ _ (eq-eqb _ _ (length_part (20 * item) 20 buffer (omega arith)))))
