-- Numbers as bytes, and parts of a buffer. Assumes nothing.
use Rattle.std.specs.Prelude.{ℕ, zero, suc, ◌+◌, ◌/◌, ◌%◌, ◌^◌, List, [], ◌∷◌, ◌++◌, length, take, drop}
use Rattle.std.specs.Int.Digits.{number_from_digits}

-- the number that bytes write, the highest byte first
abbrev pub number_in : List ℕ → ℕ
number_in bytes = number_from_digits 256 bytes

-- a number as so many bytes, the highest byte first
abbrev pub bytes_of : ℕ → ℕ → List ℕ
bytes_of zero n = []
bytes_of (suc width) n = (n / 256 ^ width % 256) ∷ bytes_of width n

-- the bytes of a buffer from a place on, so many of them
abbrev pub part : ℕ → ℕ → List ℕ → List ℕ
part at size buffer = take size (drop at buffer)

-- a buffer with new bytes written over it from a place on, and every other byte as it was
abbrev pub over : ℕ → List ℕ → List ℕ → List ℕ
over at new buffer = take at buffer ++ (new ++ drop (at + length new) buffer)
