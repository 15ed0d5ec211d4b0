-- Records one after the other in a buffer, and then zeroes. Assumes nothing.
use Rattle.std.proofs.Common.{◌≡◌, ℕ, zero, suc, ◌+◌, ◌-◌, ◌*◌, ◌<◌, ◌≤◌, Bool, true, not, ◌&&◌, eqb, List, [], ◌∷◌, ◌++◌, map, length, get_or, take, drop, replicate, sym, refl, ap, ◌∙◌, ⊎_elim, arith, take-add}
use Rattle.std.specs.List.{range_with_len, list_all, flat_map}
use Rattle.std.proofs.lemmas.List.FromFn.{fill_by_all, map-range_with_len_more, length-map-range_with_len}
use Rattle.std.proofs.lemmas.List.{append_assoc, length-append, length-replicate, length-drop, take_at, drop_at, drop-drop, take-append-drop, drop-replicate, get_or-append_right, get_or-replicate, get_or_past, same_lists, flat_map_more, length_push}
use Rattle.std.proofs.lemmas.Bool.{and_parts, eqb-true, eqb-false, not-true, cases_lt}
use Rattle.store.specs.Bytes.{part, over}
use Rattle.store.specs.Log.{image, record_at, records, used}
use Rattle.store.proofs.Ends.{used_is, tag_is}
use Rattle.store.proofs.Passes.{all_at}

-- a record as it stands in a buffer: it has its bytes, and a tag
abbrev pub full : List ℕ → Bool
full r = eqb (length r) 25 && not (eqb (get_or r 0 0) 0)

pub full_length : (r : List ℕ) → full r ≡ true → length r ≡ 25
full_length r h = eqb-true (length r) 25 (and_parts (eqb (length r) 25) (not (eqb (get_or r 0 0) 0)) h).0

pub length_joined : (rs : List (List ℕ)) → list_all full rs ≡ true → length (flat_map (λ r. r) rs) ≡ 25 * length rs
length_joined [] all = refl
length_joined (r ∷ rs) all =
    let parts = and_parts (full r) (list_all full rs) all in
    length-append r (flat_map (λ x. x) rs) ∙ omega (arith, full_length r parts.0, length_joined rs parts.1)

pub length_image : (rs : List (List ℕ)) (size : ℕ) → list_all full rs ≡ true → 25 * length rs ≤ size → length (image rs size) ≡ size
length_image rs size all room =
    length-append (flat_map (λ r. r) rs) (replicate (size - 25 * length rs) 0)
    ∙ omega (arith, length_joined rs all, length-replicate {A = ℕ} (size - 25 * length rs) 0)

-- each record stands at its place
place_is : (rs : List (List ℕ)) (tail : List ℕ) (k : ℕ) → list_all full rs ≡ true → k < length rs → part (25 * k) 25 (flat_map (λ r. r) rs ++ tail) ≡ get_or rs k []
place_is [] tail k all below = absurd (omega arith)
place_is (r ∷ rs) tail zero all below =
    let parts = and_parts (full r) (list_all full rs) all in
    ap (take 25) (append_assoc r (flat_map (λ x. x) rs) tail) ∙ take_at r (flat_map (λ x. x) rs ++ tail) 25 (full_length r parts.0)
place_is (r ∷ rs) tail (suc k) all below =
    let parts = and_parts (full r) (list_all full rs) all in
    let step : 25 * suc k ≡ 25 + 25 * k = omega arith in
    let whole : List ℕ = (r ++ flat_map (λ x. x) rs) ++ tail in
    ap (λ n. part n 25 whole) step
    ∙ ap (take 25) (sym (drop-drop (25 * k) 25 whole) ∙ ap (drop (25 * k)) (ap (drop 25) (append_assoc r (flat_map (λ x. x) rs) tail) ∙ drop_at r (flat_map (λ x. x) rs ++ tail) 25 (full_length r parts.0)))
    ∙ place_is rs tail k parts.1 (omega arith)

pub record_at_image : (rs : List (List ℕ)) (size k : ℕ) → list_all full rs ≡ true → k < length rs → record_at (image rs size) k ≡ get_or rs k []
record_at_image rs size k all below = place_is rs (replicate (size - 25 * length rs) 0) k all below

zeroes : (n k : ℕ) → ◌≡◌ {A = ℕ} (get_or (replicate n 0) k 0) 0
zeroes n k = ⊎_elim (λ below. get_or-replicate n k 0 0 below) (λ past. get_or_past (replicate n 0) k 0 (omega (arith, length-replicate {A = ℕ} n 0))) (cases_lt k n)

past_image : (rs : List (List ℕ)) (size k : ℕ) → list_all full rs ≡ true → 25 * length rs ≤ k → get_or (image rs size) k 0 ≡ 0
past_image rs size k all past =
    get_or-append_right (flat_map (λ r. r) rs) (replicate (size - 25 * length rs) 0) (25 * length rs) k 0 (length_joined rs all) past
    ∙ zeroes (size - 25 * length rs) (k - 25 * length rs)

pub used_image : (rs : List (List ℕ)) (size : ℕ) → list_all full rs ≡ true → 25 * length rs ≤ size → used (image rs size) ≡ length rs
used_image rs size all room =
    let long = length_image rs size all room in
    used_is (image rs size) (length rs) (omega arith)
    (λ k below e.
    let tag = sym (tag_is (image rs size) k) ∙ ap (λ r. get_or r 0 0) (record_at_image rs size k all below) in
    let parts = and_parts (eqb (length (get_or rs k [])) 25) (not (eqb (get_or (get_or rs k []) 0 0) 0)) (all_at full rs k [] all below) in
    eqb-false _ 0 (not-true _ parts.1) (sym tag ∙ e))
    (λ _. past_image rs size (25 * length rs) all (omega arith))

pub firsts_image : (rs : List (List ℕ)) (size : ℕ) → list_all full rs ≡ true → map (record_at (image rs size)) (range_with_len 0 (length rs)) ≡ rs
firsts_image rs size all = sym (fill_by_all (record_at (image rs size)) rs (length rs) [] refl (λ k below. sym (record_at_image rs size k all below)))

pub records_image : (rs : List (List ℕ)) (size : ℕ) → list_all full rs ≡ true → 25 * length rs ≤ size → records (image rs size) ≡ rs
records_image rs size all room =
    ap (λ n. map (record_at (image rs size)) (range_with_len 0 n)) (used_image rs size all room) ∙ firsts_image rs size all

pub joined_push : (rs : List (List ℕ)) (r : List ℕ) → flat_map (λ x. x) (rs ++ r ∷ []) ≡ flat_map (λ x. x) rs ++ r
joined_push rs r = sym (flat_map_more (λ x. x) [] rs r)

-- one record more
pub image_push :
    (rs : List (List ℕ)) (r : List ℕ) (size : ℕ) → list_all full rs ≡ true → length r ≡ 25
    → over (25 * length rs) r (image rs size) ≡ image (rs ++ r ∷ []) size
image_push rs r size all long =
    let j : List ℕ = flat_map (λ x. x) rs in
    let z : ℕ = size - 25 * length rs in
    let at = length_joined rs all in
    let rest : drop (25 * length rs + length r) (j ++ replicate z 0) ≡ replicate (size - 25 * length (rs ++ r ∷ [])) 0 =
    sym (drop-drop (length r) (25 * length rs) (j ++ replicate z 0))
    ∙ ap (drop (length r)) (drop_at j (replicate z 0) (25 * length rs) at)
    ∙ drop-replicate (length r) z 0
    ∙ ap (λ n. replicate n 0) (omega (arith, length_push rs r)) in
    ap (λ l. l ++ (r ++ drop (25 * length rs + length r) (j ++ replicate z 0))) (take_at j (replicate z 0) (25 * length rs) at)
    ∙ ap (λ l. j ++ (r ++ l)) rest
    ∙ sym (append_assoc j r (replicate (size - 25 * length (rs ++ r ∷ [])) 0))
    ∙ ap (λ l. l ++ replicate (size - 25 * length (rs ++ r ∷ [])) 0) (sym (joined_push rs r))

-- the front of a buffer is its records
pub front_is : (buffer : List ℕ) (n : ℕ) → take (25 * n) buffer ≡ flat_map (λ r. r) (map (record_at buffer) (range_with_len 0 n))
front_is buffer zero = refl
front_is buffer (suc n) =
    let step : 25 * suc n ≡ 25 * n + 25 = omega arith in
    let more : suc n ≡ n + 1 = omega arith in
    ap (λ k. take k buffer) step
    ∙ take-add (25 * n) 25 buffer
    ∙ ap (λ l. l ++ record_at buffer n) (front_is buffer n)
    ∙ sym (joined_push (map (record_at buffer) (range_with_len 0 n)) (record_at buffer n))
    ∙ ap (flat_map (λ r. r)) (sym (ap (λ k. map (record_at buffer) (range_with_len 0 k)) more ∙ map-range_with_len_more (record_at buffer) 0 n n (omega arith)))

pub image_is : (buffer : List ℕ) (n : ℕ) → list_all (λ b. eqb b 0) (drop (25 * n) buffer) ≡ true → buffer ≡ image (map (record_at buffer) (range_with_len 0 n)) (length buffer)
image_is buffer n clear =
    let long = length-map-range_with_len (record_at buffer) 0 n in
    let tail : drop (25 * n) buffer ≡ replicate (length buffer - 25 * length (map (record_at buffer) (range_with_len 0 n))) 0 =
    same_lists _ _ (length-drop (25 * n) buffer ∙ sym (length-replicate _ 0 ∙ ap (λ k. length buffer - 25 * k) long))
    (λ k d below.
    eqb-true _ 0 (all_at (λ b. eqb b 0) (drop (25 * n) buffer) k d clear below)
    ∙ sym (get_or-replicate _ k 0 d (omega (arith, length-drop (25 * n) buffer, long)))) in
    sym (take-append-drop (25 * n) buffer)
    ∙ ap (λ l. l ++ drop (25 * n) buffer) (front_is buffer n)
    ∙ ap (λ l. flat_map (λ r. r) (map (record_at buffer) (range_with_len 0 n)) ++ l) tail
