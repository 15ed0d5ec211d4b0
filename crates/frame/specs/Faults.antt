-- Why a frame is refused, and the number that each reason has. Assumes nothing.
use Rattle.std.specs.Prelude.{ℕ, List, codes}
use Rattle.frame.specs.declared.faults.Fault.{Fault}
use Rattle.frame.specs.declared.faults.Fault.TheVariants.{Cut, Tag, Length, Unknown, Trailing, Room}

abbrev pub number : Fault → ℕ
number Cut = 20
number Tag = 21
number Length = 22
number Unknown = 23
number Trailing = 24
number Room = 25

-- what a program prints of it
abbrev pub meaning : Fault → List ℕ
meaning Cut = codes "the frame ends inside a field"
meaning Tag = codes "a field has another tag"
meaning Length = codes "a field has another length"
meaning Unknown = codes "no call or answer has that number"
meaning Trailing = codes "bytes are left over after the last field"
meaning Room = codes "the buffer is too short"
