-- The chunks of a buffer are its record places. Assumes nothing.
use Rattle.std.proofs.Common.{◌≡◌, ℕ, zero, suc, ◌+◌, ◌*◌, ◌/◌, ◌<◌, ◌≤◌, List, [], ◌∷◌, map, length, get_or, take, drop, refl, ap, ◌∙◌, arith}
use Rattle.std.specs.List.{range_with_len}
use Rattle.std.specs.Simd.{first_chunks}
use Rattle.std.proofs.lemmas.List.{drop-drop}
use Rattle.std.proofs.lemmas.List.FromFn.{length-map-range_with_len, get_or-map-range_with_len, take-map-range_with_len}
use Rattle.store.specs.Log.{record_at}

from : (buffer : List ℕ) (a n : ℕ) → first_chunks 25 n (drop (25 * a) buffer) ≡ map (record_at buffer) (range_with_len a n)
from buffer a zero = refl
from buffer a (suc n) =
    let step : 25 * a + 25 ≡ 25 * (a + 1) = omega arith in
    let rest : drop 25 (drop (25 * a) buffer) ≡ drop (25 * (a + 1)) buffer = drop-drop 25 (25 * a) buffer ∙ ap (λ k. drop k buffer) step in
    ap (λ l. record_at buffer a ∷ l) (ap (first_chunks 25 n) rest ∙ from buffer (a + 1) n)

pub chunks_are : (buffer : List ℕ) (n : ℕ) → first_chunks 25 n buffer ≡ map (record_at buffer) (range_with_len 0 n)
chunks_are buffer n = from buffer 0 n

-- one of the first n places
pub place_at :
    (buffer : List ℕ) (places : List (List ℕ)) (n k : ℕ)
    → places ≡ map (record_at buffer) (range_with_len 0 (length buffer / 25)) → 25 * n ≤ length buffer → k < length (take n places)
    → (k < n) × (get_or (take n places) k [] ≡ record_at buffer k)
place_at buffer places n k is fits within =
    let first : take n places ≡ map (record_at buffer) (range_with_len 0 n) =
    ap (take n) is ∙ take-map-range_with_len (record_at buffer) 0 (length buffer / 25) n (omega arith) in
    let below : k < n = omega (arith, ap length first, length-map-range_with_len (record_at buffer) 0 n) in
    (below, ap (λ l. get_or l k []) first ∙ get_or-map-range_with_len (record_at buffer) 0 n k k [] below (omega arith))
