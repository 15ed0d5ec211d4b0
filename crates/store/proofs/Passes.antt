-- What holds of each element of a list, as one test. Assumes nothing.
use Rattle.std.proofs.Common.{◌≡◌, ℕ, ◌<◌, Bool, true, List, [], ◌∷◌, ◌++◌, map, length, get_or, ap, ◌∙◌, subst, arith}
use Rattle.std.specs.List.{range_with_len, list_all}
use Rattle.std.proofs.lemmas.List.Elements.{All-get_or, All-from_get_or, All-weaker}
use Rattle.std.proofs.lemmas.List.Folds.{list_all-append}
use Rattle.std.proofs.lemmas.List.FromFn.{length-map-range_with_len, get_or-map-range_with_len}
use Rattle.std.proofs.lemmas.List.Sums.{AllPass-from_list_all, list_all-from_AllPass}

pub all_at : {X : Type 0} (q : X → Bool) (xs : List X) (k : ℕ) (d : X) → list_all q xs ≡ true → k < length xs → q (get_or xs k d) ≡ true
all_at q xs k d all below = All-get_or (λ x. q x ≡ true) xs k d below (AllPass-from_list_all q xs all)

pub all_from : {X : Type 0} (q : X → Bool) (xs : List X) (d : X) → ((k : ℕ) → k < length xs → q (get_or xs k d) ≡ true) → list_all q xs ≡ true
all_from q xs d each = list_all-from_AllPass q xs (All-from_get_or (λ x. q x ≡ true) xs d each)

pub all_of : {X : Type 0} (p q : X → Bool) → ((x : X) → p x ≡ true → q x ≡ true) → (xs : List X) → list_all p xs ≡ true → list_all q xs ≡ true
all_of p q so xs all =
    list_all-from_AllPass q xs (All-weaker (λ x. p x ≡ true) (λ x. q x ≡ true) so xs (AllPass-from_list_all p xs all))

pub all_push : {X : Type 0} (q : X → Bool) (xs : List X) (x : X) → list_all q xs ≡ true → q x ≡ true → list_all q (xs ++ x ∷ []) ≡ true
all_push q xs x all here = list_all-append q xs (x ∷ []) ∙ simp (all, here)

-- the same of a list that is made from a function of the place
pub all_made_at : {X : Type 0} (q : X → Bool) (f : ℕ → X) (n k : ℕ) → list_all q (map f (range_with_len 0 n)) ≡ true → k < n → q (f k) ≡ true
all_made_at q f n k all below =
    let long = length-map-range_with_len f 0 n in
    subst (λ x. q x ≡ true) (get_or-map-range_with_len f 0 n k k (f k) below (omega arith)) (all_at q (map f (range_with_len 0 n)) k (f k) all (omega arith))

pub all_made : {X : Type 0} (q : X → Bool) (f : ℕ → X) (n : ℕ) → ((k : ℕ) → k < n → q (f k) ≡ true) → list_all q (map f (range_with_len 0 n)) ≡ true
all_made q f n each =
    let long = length-map-range_with_len f 0 n in
    all_from q (map f (range_with_len 0 n)) (f 0) (λ k h.
    let below : k < n = omega arith in
    ap q (get_or-map-range_with_len f 0 n k k (f 0) below (omega arith)) ∙ each k below)
