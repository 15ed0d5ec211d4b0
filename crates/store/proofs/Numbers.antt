-- A number and its bytes: the round trip, once, over the width. Assumes nothing.
use Rattle.std.proofs.Common.{◌≡◌, ℕ, zero, suc, ◌+◌, ◌*◌, ◌/◌, ◌%◌, ◌^◌, ◌<◌, length, refl, ap, ◌∙◌, mod-eq_of_lt, mul_assoc, add-mul, arith}
use native.Mathlib.Nat.{pow-succ', mod-one, one-le-pow}
use lib.Arith.{mod-mul}
use Rattle.std.specs.Int.Digits.{number_from_digits_after}
use Rattle.store.specs.Bytes.{number_in, bytes_of}

pub length_bytes_of : (width n : ℕ) → length (bytes_of width n) ≡ width
length_bytes_of zero n = refl
length_bytes_of (suc width) n = ap suc (length_bytes_of width n)

after : (width n high : ℕ) → number_from_digits_after 256 high (bytes_of width n) ≡ high * 256 ^ width + n % 256 ^ width
after zero n high = omega (arith, mod-one n)
after (suc width) n high =
    let low : 0 < 256 ^ width = one-le-pow width 256 (omega arith) in
    let digit : ℕ = n / 256 ^ width % 256 in
    let split : n % (256 * 256 ^ width) ≡ digit * 256 ^ width + n % 256 ^ width = mod-mul n (omega arith) low in
    after width n (high * 256 + digit)
    ∙ rw (pow-succ', mod-mul n {m = 256} {c = 256 ^ width} (omega arith) low) (omega (arith, add-mul (high * 256) digit (256 ^ width), mul_assoc high 256 (256 ^ width)))

pub number_in_bytes_of : (width n : ℕ) → n < 256 ^ width → number_in (bytes_of width n) ≡ n
number_in_bytes_of width n fits = after width n 0 ∙ omega (arith, mod-eq_of_lt fits)
