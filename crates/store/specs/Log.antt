-- The log: records one after the other, the last of an item being its version. Assumes nothing.
use Rattle.std.specs.Prelude.{ℕ, ◌+◌, ◌-◌, ◌*◌, ◌/◌, Bool, cond, not, ◌&&◌, ◌||◌, List, [], ◌∷◌, ◌++◌, map, length, drop, replicate, is_some, is_ok, Some, None, Option, Result, ◌==◌, nat_eq, nat_lt, slice_index}
use Rattle.std.specs.List.{range_with_len, list_all, flat_map, prefix_len}
use Rattle.std.specs.Option.{option_or}
use Rattle.store.specs.declared.Version.{Version}
use Rattle.store.specs.declared.faults.Fault.{Fault}
use Rattle.store.specs.declared.faults.Fault.TheVariants.{Count, Length, Record, Trailing}
use Rattle.store.specs.Bytes.{number_in, bytes_of, part, over}
use Rattle.store.specs.Faults.{first_of}
use Rattle.store.specs.Packed.{version_size, packed, unpacked}

-- a record's tag, how many bytes come after its length, and how many it has in all
abbrev pub tag : ℕ
tag = 82

abbrev pub content_size : ℕ
content_size = 2 + version_size

abbrev pub record_size : ℕ
record_size = 3 + content_size

-- a record: the tag, the length, the item, the packed version
abbrev pub head : List ℕ
head = tag ∷ bytes_of 2 content_size

abbrev pub record_of : ℕ → Version → List ℕ
record_of item v = head ++ (bytes_of 2 item ++ packed v)

abbrev pub item_of : List ℕ → ℕ
item_of r = number_in (part 3 2 r)

abbrev pub version_of : List ℕ → Version
version_of r = unpacked (part 5 version_size r)

-- whether a record has the right tag and length, and an item that there is
abbrev pub headed : List ℕ → Bool
headed r = slice_index r 0 == tag && (slice_index r 1 == 0 && slice_index r 2 == content_size)

abbrev pub sound : ℕ → List ℕ → Bool
sound count r = headed r && nat_lt (item_of r) count

-- the bytes of a record place; the log ends at the first place whose tag is 0, and at the last that fits
abbrev pub record_at : List ℕ → ℕ → List ℕ
record_at buffer place = part (record_size * place) record_size buffer

abbrev pub used : List ℕ → ℕ
used buffer =
    prefix_len (λ r. not (slice_index r 0 == 0)) (map (record_at buffer) (range_with_len 0 (length buffer / record_size)))

abbrev pub records : List ℕ → List (List ℕ)
records buffer = map (record_at buffer) (range_with_len 0 (used buffer))

-- the last of a list that has a key
abbrev pub last_by : {X : Type 0} → (X → ℕ) → ℕ → List X → Option X
last_by key_of key [] = None
last_by key_of key (x ∷ xs) = option_or (last_by key_of key xs) (cond (key_of x == key) (Some x) None)

-- the place of an item's last record, of the first so many records
abbrev pub last_place : List ℕ → ℕ → ℕ → Option ℕ
last_place buffer n item = last_by (λ place. item_of (record_at buffer place)) item (range_with_len 0 n)

abbrev pub zero_version : Version
zero_version = record { value = 0; twrite = 0; tread = 0 }

abbrev pub version_from : List ℕ → Option ℕ → Version
version_from buffer None = zero_version
version_from buffer (Some place) = version_of (record_at buffer place)

abbrev pub version_of_item : List ℕ → ℕ → Version
version_of_item buffer item = version_from buffer (last_place buffer (used buffer) item)

-- what a log means
abbrev pub log : List ℕ → ℕ → List Version
log buffer count = map (version_of_item buffer) (range_with_len 0 count)

-- the records that have no later one for their item
abbrev pub kept : List (List ℕ) → List (List ℕ)
kept [] = []
kept (r ∷ rs) = cond (is_some (last_by item_of (item_of r) rs)) (kept rs) (r ∷ kept rs)

-- a buffer of so many bytes that holds records and then zeroes
abbrev pub image : List (List ℕ) → ℕ → List ℕ
image rs size = flat_map (λ r. r) rs ++ replicate (size - record_size * length rs) 0

abbrev pub compacted : List ℕ → List ℕ
compacted buffer = image (kept (records buffer)) (length buffer)

abbrev pub appended : ℕ → Version → List ℕ → List ℕ
appended item v buffer = over (record_size * used buffer) (record_of item v) buffer

-- a buffer in which a record more fits: compacted, where none does
abbrev pub roomy : List ℕ → List ℕ
roomy buffer = cond (nat_lt (length buffer) (record_size * (used buffer + 1))) (compacted buffer) buffer

-- the buffer after a put: a record more, and past the items nothing
abbrev pub after_put : List ℕ → ℕ → ℕ → Version → List ℕ
after_put buffer count item v = cond (nat_lt item count) (appended item v (roomy buffer)) buffer

-- why a buffer cannot be a log of `count` items
abbrev pub checked : List ℕ → ℕ → Result (Unit {0}) Fault
checked buffer count =
    first_of
    ((count == 0 || nat_lt 256 count, Count)
    ∷ (nat_lt 65536 (length buffer) || nat_lt (length buffer) (record_size * (count + 1)), Length)
    ∷ (not (list_all (sound count) (records buffer)), Record)
    ∷ (not (list_all (λ b. nat_eq b 0) (drop (record_size * used buffer) buffer)), Trailing)
    ∷ [])

abbrev pub opened : List ℕ → ℕ → ℕ
opened buffer count = cond (is_ok (checked buffer count)) count 0
