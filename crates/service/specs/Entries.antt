-- The entries of a transaction, at most one an item.
use Rattle.std.specs.Prelude.{ℕ, max, Bool, true, false, cond, ◌&&◌, List, [], ◌∷◌, is_some, Some, None, Option, ◌==◌, nat_lt}
use Rattle.std.specs.List.{list_any, list_all, position_from}
use Rattle.store.specs.declared.Version.{Version}
use Rattle.service.specs.declared.tools.Entry.{Entry}
use Rattle.service.specs.declared.tools.Stand.{Stand}
use Rattle.service.specs.declared.tools.Stand.TheVariants.{Bare, Held, Settled}

abbrev pub is_held : Stand → Bool
is_held Bare = false
is_held Held = true
is_held Settled = false

abbrev pub find : ℕ → List Entry → Option Entry
find i [] = None
find i (e ∷ es) = cond (i == e.item) (Some e) (find i es)

-- the entry takes the place of the one for its item, or comes last
abbrev pub enter : Entry → List Entry → List Entry
enter e [] = e ∷ []
enter e (x ∷ es) = cond (e.item == x.item) (e ∷ es) (x ∷ enter e es)

-- an item that was not used yet
abbrev pub blank : ℕ → Entry
blank i = record { item = i; value = 0; seen = None; written = false; stand = Bare }

abbrev pub or_blank : ℕ → Option Entry → Entry
or_blank i None = blank i
or_blank i (Some e) = e

-- made by a first read
abbrev pub read_from : ℕ → Version → Entry
read_from i v = record { item = i; value = v.value; seen = Some v.twrite; written = false; stand = Bare }

abbrev pub written_to : Entry → ℕ → Entry
written_to e v = record { item = e.item; value = v; seen = e.seen; written = true; stand = e.stand }

abbrev pub stood : Entry → Stand → Entry
stood e a = record { item = e.item; value = e.value; seen = e.seen; written = e.written; stand = a }

abbrev pub any_held : List Entry → Bool
any_held es = list_any (λ e. is_held e.stand) es

abbrev pub all_held : List Entry → Bool
all_held es = list_all (λ e. is_held e.stand) es

-- the version once a committed entry with that stamp is settled: a read raises tread, and a write that
-- comes after a later one is dropped
abbrev pub settled_version : Entry → ℕ → Version → Version
settled_version e st v = record {
  value = cond (e.written && nat_lt v.twrite st) e.value v.value;
  twrite = cond (e.written && nat_lt v.twrite st) st v.twrite;
  tread = cond (is_some e.seen) (max v.tread st) v.tread;
}

-- the place of the item's entry, counted from n
abbrev pub index_from : ℕ → ℕ → List Entry → Option ℕ
index_from n i es = position_from (λ e. i == e.item) n es
