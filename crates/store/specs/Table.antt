-- The table: the packed version of item i stands in the buffer at i times its size. Assumes nothing.
use Rattle.std.specs.Prelude.{ℕ, ◌*◌, cond, ◌||◌, List, [], ◌∷◌, map, length, is_ok, Result, ◌==◌, nat_lt}
use Rattle.std.specs.List.{range_with_len}
use Rattle.store.specs.declared.Version.{Version}
use Rattle.store.specs.declared.faults.Fault.{Fault}
use Rattle.store.specs.declared.faults.Fault.TheVariants.{Count, Length}
use Rattle.store.specs.Bytes.{part, over}
use Rattle.store.specs.Faults.{first_of}
use Rattle.store.specs.Packed.{version_size, packed, unpacked}

-- the version of one item, and those of the first `count` items
abbrev pub version_at : List ℕ → ℕ → Version
version_at buffer item = unpacked (part (version_size * item) version_size buffer)

abbrev pub table : List ℕ → ℕ → List Version
table buffer count = map (version_at buffer) (range_with_len 0 count)

-- the buffer after a put: the item's record is written over it, and past the items nothing is
abbrev pub after_put : List ℕ → ℕ → ℕ → Version → List ℕ
after_put buffer count item version = cond (nat_lt item count) (over (version_size * item) (packed version) buffer) buffer

-- why a buffer cannot be a table of `count` items
abbrev pub checked : List ℕ → ℕ → Result (Unit {0}) Fault
checked buffer count =
    first_of
    ((count == 0 || nat_lt 256 count, Count)
    ∷ (nat_lt 65536 (length buffer) || nat_lt (length buffer) (version_size * count), Length)
    ∷ [])

-- the items of a table that is opened: none after a refusal
abbrev pub opened : List ℕ → ℕ → ℕ
opened buffer count = cond (is_ok (checked buffer count)) count 0
