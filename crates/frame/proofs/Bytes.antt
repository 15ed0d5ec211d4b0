-- Numbers and their bytes, once, over the width. Assumes nothing.
use Rattle.std.proofs.Common.{◌≡◌, ℕ, zero, suc, ◌+◌, ◌-◌, ◌*◌, ◌/◌, ◌%◌, ◌^◌, ◌<◌, ◌≤◌, List, [], ◌∷◌, length, sym, refl, ap, ◌∙◌, mod-eq_of_lt, mul_assoc, add-mul, arith}
use native.Mathlib.Nat.{pow-succ', one-le-pow, mul-add-div_right, mul-add-mod_self_right}
use lib.Arith.{digits_div}
use Rattle.std.specs.Int.Digits.{number_from_digits_after, AllBelowBase}
use Rattle.std.proofs.lemmas.Int.Digits.{number_lt}
use borrow.Rule.Slice.PartMut.{put_mid}
use Rattle.std.specs.Int.{w64, from_be_bytes}
use Rattle.store.specs.Bytes.{number_in, bytes_of}
use Rattle.frame.specs.RoundTrip.{Bytes}

-- a digit in front
number_after : (n : ℕ) (ds : List ℕ) → number_from_digits_after 256 n ds ≡ n * 256 ^ length ds + number_in ds
number_after n [] = omega arith
number_after n (d ∷ ds) =
    let p = 256 ^ length ds in
    let e = number_after (n * 256 + d) ds in
    let f = number_after (0 + d) ds in
    let q : 256 ^ suc (length ds) ≡ 256 * p = pow-succ' 256 (length ds) in
    let r : n * 256 ^ suc (length ds) ≡ n * 256 * p = ap (λ x. n * x) q ∙ sym (mul_assoc n 256 p) in
    omega (arith, add-mul (n * 256) d p)

digits : (bs : List ℕ) → Bytes bs → AllBelowBase 256 bs
digits [] bytes = tt
digits (b ∷ bs) bytes = (bytes 0, digits bs (λ i. bytes (suc i)))

pub number_bound : (bs : List ℕ) → Bytes bs → number_in bs < 256 ^ length bs
number_bound bs bytes = number_lt 256 bs (digits bs bytes)

-- what stands above the width does not count
bytes_of_high : (width n high : ℕ) → bytes_of width (high * 256 ^ width + n) ≡ bytes_of width n
bytes_of_high zero n high = refl
bytes_of_high (suc width) n high =
    let low : 0 < 256 ^ width = one-le-pow width 256 (omega arith) in
    let e : high * 256 ^ suc width + n ≡ high * 256 * 256 ^ width + n = rw pow-succ' (omega (arith, mul_assoc high 256 (256 ^ width))) in
    let h : (high * 256 * 256 ^ width + n) / 256 ^ width % 256 ≡ n / 256 ^ width % 256 =
    ap (λ x. x % 256) (mul-add-div_right low (high * 256) n) ∙ mul-add-mod_self_right high 256 (n / 256 ^ width) in
    rw (e, h, bytes_of_high width n (high * 256))

pub bytes_of_number_in : (bs : List ℕ) → Bytes bs → bytes_of (length bs) (number_in bs) ≡ bs
bytes_of_number_in [] bytes = refl
bytes_of_number_in (b ∷ bs) bytes =
    let rest : Bytes bs = λ i. bytes (suc i) in
    let byte : 0 + b < 256 = omega (arith, bytes 0) in
    let e = number_after (0 + b) bs in
    let h : ((0 + b) * 256 ^ length bs + number_in bs) / 256 ^ length bs % 256 ≡ b =
    ap (λ x. x % 256) (digits_div (0 + b) (number_bound bs rest)) ∙ (mod-eq_of_lt byte ∙ omega arith) in
    rw (e, h, bytes_of_high (length bs) (number_in bs) (0 + b), bytes_of_number_in bs rest)

-- up to eight bytes behind zeros, as a machine reads them
pub padded : (bs : List ℕ) → length bs ≤ 8
    → from_be_bytes w64 (put_mid (8 - length bs) (8 - (8 - length bs)) (0 ∷ 0 ∷ 0 ∷ 0 ∷ 0 ∷ 0 ∷ 0 ∷ 0 ∷ []) bs) ≡ number_in bs
padded [] fits = refl
padded (a ∷ []) fits = omega arith
padded (a ∷ b ∷ []) fits = omega arith
padded (a ∷ b ∷ c ∷ []) fits = omega arith
padded (a ∷ b ∷ c ∷ d ∷ []) fits = omega arith
padded (a ∷ b ∷ c ∷ d ∷ e ∷ []) fits = omega arith
padded (a ∷ b ∷ c ∷ d ∷ e ∷ f ∷ []) fits = omega arith
padded (a ∷ b ∷ c ∷ d ∷ e ∷ f ∷ g ∷ []) fits = omega arith
padded (a ∷ b ∷ c ∷ d ∷ e ∷ f ∷ g ∷ h ∷ []) fits = omega arith
padded (a ∷ b ∷ c ∷ d ∷ e ∷ f ∷ g ∷ h ∷ i ∷ bs) fits = absurd (omega arith)
