-- A list that is made from a function of the place: what stands at a place, and one place set. Assumes nothing.
use Rattle.std.proofs.Common.{◌≡◌, ℕ, zero, suc, ◌+◌, ◌<◌, ◌≤◌, map, length, get_or, set, Some, None, sym, refl, ap, ◌∙◌, ⊎_elim, arith}
use Rattle.std.specs.List.{range_with_len, slice_get}
use Rattle.std.proofs.lemmas.List.FromFn.{length-map-range_with_len, get_or-map-range_with_len}
use Rattle.std.proofs.lemmas.List.{same_lists, length-set, get_or-set_same, get_or-set_other, set_past}
use Rattle.std.proofs.lemmas.Option.{slice_get-get_or, slice_get_past}
use Rattle.std.proofs.lemmas.Bool.{cases_eq}

-- how many stand there
pub length_made : {X : Type 0} (f : ℕ → X) (n : ℕ) → length (map f (range_with_len 0 n)) ≡ n
length_made f n = length-map-range_with_len f 0 n

pub nth_made : {X : Type 0} (f : ℕ → X) (n i : ℕ) → i < n → slice_get (map f (range_with_len 0 n)) i ≡ Some (f i)
nth_made f n i below =
    let long = length-map-range_with_len f 0 n in
    slice_get-get_or (map f (range_with_len 0 n)) i (f i) (omega arith) ∙ ap Some (get_or-map-range_with_len f 0 n i i (f i) below (omega arith))

pub set_made :
    {X : Type 0} (f g : ℕ → X) (n i : ℕ) (x : X)
    → (i < n → g i ≡ x)
    → ((j : ℕ) → j < n → (j ≡ i → ⊥) → g j ≡ f j)
    → map g (range_with_len 0 n) ≡ set (map f (range_with_len 0 n)) i x
set_made f g n i x here other =
    let lf = length-map-range_with_len f 0 n in
    let lg = length-map-range_with_len g 0 n in
    same_lists _ _ (lg ∙ sym (length-set _ i x ∙ lf))
    (λ j d h.
    let below : j < n = omega arith in
    let made = get_or-map-range_with_len g 0 n j j d below (omega arith) in
    ⊎_elim
    (λ e. made ∙ ap g e ∙ here (omega arith) ∙ sym (ap (λ k. get_or (set (map f (range_with_len 0 n)) i x) k d) e ∙ get_or-set_same _ i x d (omega arith)))
    (λ apart. made ∙ other j below apart ∙ sym (get_or-set_other _ i j x d apart ∙ get_or-map-range_with_len f 0 n j j d below (omega arith)))
    (cases_eq j i))

pub nth_made_past : {X : Type 0} (f : ℕ → X) (n i : ℕ) → n ≤ i → slice_get (map f (range_with_len 0 n)) i ≡ None
nth_made_past f n i past = let long = length-map-range_with_len f 0 n in slice_get_past _ i (omega arith)

pub set_made_past : {X : Type 0} (f : ℕ → X) (n i : ℕ) (x : X) → n ≤ i → set (map f (range_with_len 0 n)) i x ≡ map f (range_with_len 0 n)
set_made_past f n i x past = let long = length-map-range_with_len f 0 n in set_past _ i x (omega arith)

pub map_same : {X : Type 0} (f g : ℕ → X) (n : ℕ) → ((k : ℕ) → f k ≡ g k) → map f (range_with_len 0 n) ≡ map g (range_with_len 0 n)
map_same f g n same = from 0 n
  where
    from : (a m : ℕ) → map f (range_with_len a m) ≡ map g (range_with_len a m)
    from a zero = refl
    from a (suc m) = cc (same a, from (a + 1) m)
