-- Why a buffer is refused, and the number that each reason has. Assumes nothing.
use Rattle.std.specs.Prelude.{ℕ, Bool, cond, List, [], ◌∷◌, Ok, Err, codes, Result}
use Rattle.store.specs.declared.faults.Fault.{Fault}
use Rattle.store.specs.declared.faults.Fault.TheVariants.{Count, Length, Record, Trailing}

abbrev pub number : Fault → ℕ
number Count = 30
number Length = 31
number Record = 32
number Trailing = 33

-- what a program prints of it
abbrev pub meaning : Fault → List ℕ
meaning Count = codes "the count of items is 0 or above 256"
meaning Length = codes "the buffer is above 65536 bytes, or too short for its items"
meaning Record = codes "a log record has a wrong tag, length or item"
meaning Trailing = codes "a byte after the log's end is not 0"

-- of tests in order, each with its fault, the first that holds gives the answer
abbrev pub first_of : List (Bool × Fault) → Result (Unit {0}) Fault
first_of [] = Ok tt
first_of (test ∷ rest) = cond test.0 (Err test.1) (first_of rest)
