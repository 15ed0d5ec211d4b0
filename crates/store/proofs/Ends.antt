-- Where a log ends. Assumes nothing.
use Rattle.std.proofs.Common.{◌≡◌, ℕ, ◌+◌, ◌*◌, ◌/◌, ◌<◌, ◌≤◌, not, eqb, List, [], length, map, get_or, drop, sym, ap, ◌∙◌, arith}
use Rattle.std.specs.List.{range_with_len}
use Rattle.std.proofs.lemmas.List.{get_or-take, get_or-drop}
use Rattle.std.proofs.lemmas.List.FromFn.{length-map-range_with_len, get_or-map-range_with_len}
use Rattle.std.proofs.lemmas.List.Sums.{prefix_len_is}
use Rattle.std.proofs.lemmas.Bool.{eq-eqb, ne_eqb}
use Rattle.store.specs.Log.{used, record_at}

pub tag_is : (buffer : List ℕ) (place : ℕ) → get_or (record_at buffer place) 0 0 ≡ get_or buffer (25 * place) 0
tag_is buffer place =
    let at : 25 * place + 0 ≡ 25 * place = omega arith in
    get_or-take 25 (drop (25 * place) buffer) 0 0 (omega arith) ∙ get_or-drop (25 * place) buffer 0 0 ∙ ap (λ k. get_or buffer k 0) at

pub used_is :
    (buffer : List ℕ) (n : ℕ)
    → n ≤ length buffer / 25
    → ((k : ℕ) → k < n → get_or buffer (25 * k) 0 ≡ 0 → ⊥)
    → (n < length buffer / 25 → get_or buffer (25 * n) 0 ≡ 0)
    → used buffer ≡ n
used_is buffer n within before stops =
    let places : ℕ = length buffer / 25 in
    let long = length-map-range_with_len (record_at buffer) 0 places in
    prefix_len_is (λ r. not (eqb (get_or r 0 0) 0)) (map (record_at buffer) (range_with_len 0 places)) n [] (omega arith)
    (λ k below.
    ap (λ r. not (eqb (get_or r 0 0) 0)) (get_or-map-range_with_len (record_at buffer) 0 places k k [] (omega arith) (omega arith))
    ∙ ap not (ne_eqb _ 0 (λ e. before k below (sym (tag_is buffer k) ∙ e))))
    (λ below.
    ap (λ r. not (eqb (get_or r 0 0) 0)) (get_or-map-range_with_len (record_at buffer) 0 places n n [] (omega arith) (omega arith))
    ∙ ap not (eq-eqb _ 0 (tag_is buffer n ∙ stops (omega arith))))
