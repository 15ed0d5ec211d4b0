-- What reading and writing reply, by whether the item has an entry.
use Rattle.std.proofs.Common.{◌≡◌, ℕ, ◌<◌, ◌≤◌, false, leb, ◌⊎◌, List, length, Some, None, Ok, Option, is_some, true, inl, inr, arith}
use Rattle.std.specs.List.{slice_get}
use Rattle.std.proofs.lemmas.Option.{slice_get-get_or, slice_get_past}
use Rattle.std.proofs.lemmas.Bool.{lt-leb, cases_lt, false≢true}
use Rattle.store.specs.declared.Version.{Version}
use Rattle.service.specs.declared.calls.Call.TheVariants.{Read, Write}
use Rattle.service.specs.declared.calls.Answer.TheVariants.{Done, Value}
use Rattle.service.specs.declared.tools.Entry.{Entry}
use Rattle.service.specs.Entries.{find, enter, read_from, written_to, blank}
use Rattle.service.specs.Service.{State, Seat, Replies, entered, version}

-- the version that get answered
pub got : (vs : List Version) (i : ℕ) (v : Version) → slice_get vs i ≡ Some v → (i < length vs) × (version vs i ≡ v)
got vs i v h = go (cases_lt i (length vs))
  where
    go : (i < length vs) ⊎ (length vs ≤ i) → (i < length vs) × (version vs i ≡ v)
    go (inl l) = let e = slice_get-get_or vs i (record { value = 0; twrite = 0; tread = 0 }) l in (l, cc)
    go (inr l) = let e = slice_get_past vs i l in let z : ◌≡◌ {A = ℕ} 0 1 = cc in absurd (omega arith)

-- get answered none
pub past_end : (vs : List Version) (i : ℕ) → slice_get vs i ≡ None → length vs ≤ i
past_end vs i h = go (cases_lt i (length vs))
  where
    go : (i < length vs) ⊎ (length vs ≤ i) → length vs ≤ i
    go (inl l) = let e = slice_get-get_or vs i (record { value = 0; twrite = 0; tread = 0 }) l in let z : ◌≡◌ {A = ℕ} 0 1 = cc in absurd (omega arith)
    go (inr l) = l

-- get answered one
pub known : (vs : List Version) (i : ℕ) (f : Option Version) → slice_get vs i ≡ f → is_some f ≡ true → i < length vs
known vs i None h n = absurd (false≢true n)
known vs i (Some v) h n = (got vs i v h).0

module _ (s : State) (x : Seat) (t i : ℕ) (known : i < length s.versions) where
  item_known : leb (length s.versions) i ≡ false
  item_known = lt-leb (length s.versions) i known

  pub read_first : (v : Version) → version s.versions i ≡ v → find i x.entries ≡ None → length x.entries < 8 → (x' : Seat) → x' ≡ entered x (enter (read_from i v) x.entries)
      → Replies s x (Read t i) (Ok (Value v.value)) x'
  read_first v g f l x' e = rw (item_known, f, lt-leb 8 (length x.entries) l, f, g, e)

  pub write_again : (v : ℕ) (e : Entry) → find i x.entries ≡ Some e → (x' : Seat) → x' ≡ entered x (enter (written_to e v) x.entries) → Replies s x (Write t i v) (Ok Done) x'
  write_again v e f x' q = rw (item_known, f, f, q)

  pub write_first : (v : ℕ) → find i x.entries ≡ None → length x.entries < 8 → (x' : Seat) → x' ≡ entered x (enter (written_to (blank i) v) x.entries)
      → Replies s x (Write t i v) (Ok Done) x'
  write_first v f l x' e = rw (item_known, f, lt-leb 8 (length x.entries) l, f, e)
