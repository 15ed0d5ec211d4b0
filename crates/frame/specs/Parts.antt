-- Fields as parts of the frame that they are read from.
use Rattle.std.specs.Prelude.{◌≡◌, ℕ, List, length, Ok, Err, Result}
use Rattle.std.specs.Borrow.{Bor}
use Rattle.store.specs.Bytes.{number_in, part}
use Rattle.frame.specs.declared.faults.Fault.{Fault}
use Rattle.frame.specs.declared.kinds.Kind.{Kind}
use Rattle.frame.specs.declared.kinds.Kind.TheVariants as kind
use Rattle.frame.specs.declared.fields.Field.{Field}
use Rattle.frame.specs.declared.fields.Field.TheVariants.{Tool, Call, Item, Value, Tick, Stamp, Answer}
use Rattle.frame.specs.Fields.{width, taken}

abbrev pub content_of : Field → Bor (List ℕ)
content_of (Tool c) = c
content_of (Call c) = c
content_of (Item c) = c
content_of (Value c) = c
content_of (Tick c) = c
content_of (Stamp c) = c
content_of (Answer c) = c

abbrev pub kind_of : Field → Kind
kind_of (Tool c) = kind.Tool
kind_of (Call c) = kind.Call
kind_of (Item c) = kind.Item
kind_of (Value c) = kind.Value
kind_of (Tick c) = kind.Tick
kind_of (Stamp c) = kind.Stamp
kind_of (Answer c) = kind.Answer

-- the field is of that kind, and its content the part of the frame behind the head
pub record PartOf (k : Kind) (frame : List ℕ) (f : Field) (rest : List ℕ) : Type 0 where
  pub kind : kind_of f ≡ k
  pub content : (content_of f).now ≡ part 3 (width k) frame
  pub size : length (content_of f).now ≡ width k
  pub reads : taken k frame ≡ Ok (number_in (content_of f).now, rest)

-- what is found where a field of that kind is expected
abbrev pub Found : Kind → List ℕ → Result (Field × Bor (List ℕ)) Fault → Type 0
Found k frame (Ok (f, rest)) = PartOf k frame f rest.now
Found k frame (Err e) = taken k frame ≡ Err e
