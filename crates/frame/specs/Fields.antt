-- Fields: a tag, the length of the content in two bytes, and the content, a number with its highest byte first.
use Rattle.std.specs.Prelude.{◌≡◌, ℕ, ◌+◌, cond, not, List, ◌∷◌, ◌++◌, length, drop, Ok, Err, Result, ◌==◌, nat_lt, slice_index}
use Rattle.store.specs.Bytes.{number_in, bytes_of, part}
use Rattle.store.specs.Packed.{value_width, stamp_width}
use Rattle.frame.specs.declared.faults.Fault.{Fault}
use Rattle.frame.specs.declared.faults.Fault.TheVariants.{Cut, Tag, Length}
use Rattle.frame.specs.declared.kinds.Kind.{Kind}
use Rattle.frame.specs.declared.kinds.Kind.TheVariants.{Tool, Call, Item, Value, Tick, Stamp, Answer}

abbrev pub tag : Kind → ℕ
tag Tool = 0x54
tag Call = 0x43
tag Item = 0x49
tag Value = 0x56
tag Tick = 0x4B
tag Stamp = 0x53
tag Answer = 0x41

-- how many bytes the content has
abbrev pub width : Kind → ℕ
width Tool = 1
width Call = 1
width Item = 2
width Value = value_width
width Tick = 8
width Stamp = stamp_width
width Answer = 1

-- tag and length
abbrev pub head : Kind → List ℕ
head k = tag k ∷ bytes_of 2 (width k)

abbrev pub field : Kind → ℕ → List ℕ
field k n = head k ++ bytes_of (width k) n

-- the number in a field of that kind at the front of a frame, and what follows the field
abbrev pub taken : Kind → List ℕ → Result (ℕ × List ℕ) Fault
taken k frame =
    cond (nat_lt (length frame) 3) (Err Cut)
    (cond (not (slice_index frame 0 == tag k)) (Err Tag)
    (cond (not (number_in (part 1 2 frame) == width k)) (Err Length)
    (cond (nat_lt (length frame) (3 + width k)) (Err Cut)
    (Ok (number_in (part 3 (width k) frame), drop (3 + width k) frame)))))

-- what is read next, after a first part that was no fault
abbrev pub bind : {X Y : Type 0} → Result X Fault → (X → Result Y Fault) → Result Y Fault
bind (Ok x) next = next x
bind (Err e) next = Err e

-- reading from a frame gives r and leaves the rest
abbrev pub Reads : {X : Type 0} → (List ℕ → Result (X × List ℕ) Fault) → List ℕ → Result X Fault → List ℕ → Type 0
Reads read frame (Ok x) rest = read frame ≡ Ok (x, rest)
Reads read frame (Err e) rest = read frame ≡ Err e
