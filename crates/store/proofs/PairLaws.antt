-- Two lists side by side, cut off. Assumes nothing.
use Rattle.std.proofs.Common.{◌≡◌, ℕ, zero, suc, ◌+◌, ◌-◌, ◌<◌, ◌≤◌, min, List, [], ◌∷◌, ◌++◌, length, take, set, None, sym, refl, ap, ◌∙◌, arith}
use lib.Seq.{take-set-lt}
use Rattle.std.specs.List.{slice_get}
use Rattle.std.proofs.lemmas.List.{length-append, length-take, set-append_left, set-append_right, set_past}
use Rattle.std.proofs.lemmas.Option.{slice_get_past}
use Rattle.store.specs.Pair.{pair}

pub length_pair : {X : Type 0} (xs ys : List X) → length (pair xs ys) ≡ min (length xs + length ys) 256
length_pair xs ys = length-take 256 (xs ++ ys) ∙ omega (arith, length-append xs ys)

nth_take : {X : Type 0} (n i : ℕ) (xs : List X) → i < n → slice_get (take n xs) i ≡ slice_get xs i
nth_take zero i xs below = absurd (omega arith)
nth_take (suc n) i [] below = refl
nth_take (suc n) zero (x ∷ xs) below = refl
nth_take (suc n) (suc i) (x ∷ xs) below = nth_take n i xs (omega arith)

nth_left : {X : Type 0} (xs ys : List X) (i : ℕ) → i < length xs → slice_get (xs ++ ys) i ≡ slice_get xs i
nth_left [] ys i below = absurd (omega arith)
nth_left (x ∷ xs) ys zero below = refl
nth_left (x ∷ xs) ys (suc i) below = nth_left xs ys i (omega arith)

nth_right : {X : Type 0} (xs ys : List X) (i : ℕ) → length xs ≤ i → slice_get (xs ++ ys) i ≡ slice_get ys (i - length xs)
nth_right [] ys i past = ap (slice_get ys) (omega arith)
nth_right (x ∷ xs) ys zero past = absurd (omega arith)
nth_right (x ∷ xs) ys (suc i) past = nth_right xs ys i (omega arith) ∙ ap (slice_get ys) (omega arith)

-- an item of the first store, at its place there, and one of the second
pub nth_pair_first :
    {X : Type 0} (xs ys : List X) (i place : ℕ) → length xs ≤ 256 → (place ≡ i) × (i < length xs)
    → slice_get xs place ≡ slice_get (pair xs ys) i
nth_pair_first xs ys i place few at =
    ap (slice_get xs) at.0 ∙ sym (nth_take 256 i (xs ++ ys) (omega (arith, at.1)) ∙ nth_left xs ys i at.1)

pub nth_pair_second :
    {X : Type 0} (xs ys : List X) (i place : ℕ) → (length xs + place ≡ i) × (i < 256)
    → slice_get ys place ≡ slice_get (pair xs ys) i
nth_pair_second xs ys i place at =
    sym (nth_take 256 i (xs ++ ys) at.1 ∙ nth_right xs ys i (omega (arith, at.0)) ∙ ap (slice_get ys) (omega (arith, at.0)))

pub nth_pair_past : {X : Type 0} (xs ys : List X) (i : ℕ) → 256 ≤ i → slice_get (pair xs ys) i ≡ None
nth_pair_past xs ys i past = slice_get_past (pair xs ys) i (omega (arith, length_pair xs ys))

-- the same, after a put there
pub set_pair_first :
    {X : Type 0} (xs ys after : List X) (i place : ℕ) (x : X) → length xs ≤ 256 → (place ≡ i) × (i < length xs)
    → after ≡ set xs place x → pair after ys ≡ set (pair xs ys) i x
set_pair_first xs ys after i place x few at put =
    ap (λ l. pair l ys) (put ∙ ap (λ k. set xs k x) at.0)
    ∙ ap (take 256) (sym (set-append_left xs ys i x at.1))
    ∙ take-set-lt 256 (xs ++ ys) i x (omega (arith, at.1))

pub set_pair_second :
    {X : Type 0} (xs ys after : List X) (i place : ℕ) (x : X) → (length xs + place ≡ i) × (i < 256)
    → after ≡ set ys place x → pair xs after ≡ set (pair xs ys) i x
set_pair_second xs ys after i place x at put =
    ap (pair xs) (put ∙ ap (λ k. set ys k x) (omega (arith, at.0)))
    ∙ ap (take 256) (sym (set-append_right xs ys (length xs) i x refl (omega (arith, at.0))))
    ∙ take-set-lt 256 (xs ++ ys) i x at.1

pub set_pair_past : {X : Type 0} (xs ys : List X) (i : ℕ) (x : X) → 256 ≤ i → set (pair xs ys) i x ≡ pair xs ys
set_pair_past xs ys i x past = set_past (pair xs ys) i x (omega (arith, length_pair xs ys))
