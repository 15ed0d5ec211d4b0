-- What a look at one tool shows.
use Rattle.std.specs.Prelude.{ℕ, Bool, not, ◌&&◌, ◌||◌, List, map, filter, take, ◌==◌}
use Rattle.std.specs.List.{list_any}
use Rattle.service.specs.declared.tools.Entry.{Entry}
use Rattle.service.specs.declared.tools.Phase.{Phase}
use Rattle.service.specs.declared.tools.Stand.{Stand}
use Rattle.service.specs.Tokens.{ReadToken, WriteToken, is_of}
use Rattle.service.specs.declared.item_list.ItemList.{ItemList}
use Rattle.service.specs.Entries.{is_held}
use Rattle.service.specs.Service.{State, seat, is}

-- is the tool in that phase, under that stamp
abbrev pub is_under : Phase → State → ℕ → ℕ → Bool
is_under p s t st = is (seat s t).phase p && (seat s t).stamp == st

abbrev pub items_of : ItemList → List ℕ
items_of l = take l.used l.places

-- the items of the entries that stand so, in the order of the entries
abbrev pub items_where : (Stand → Bool) → List Entry → List ℕ
items_where p es = map (λ e. e.item) (filter (λ e. p e.stand) es)

-- those that hold a token, and those that do not
abbrev pub held_items : State → ℕ → List ℕ
held_items s t = items_where is_held (seat s t).entries

abbrev pub bare_items : State → ℕ → List ℕ
bare_items s t = items_where (λ a. not (is_held a)) (seat s t).entries

abbrev pub any_of : {A : Type 0} → (A → Bool) → List A → Bool
any_of p xs = list_any p xs

abbrev pub read_of : ℕ → ℕ → ReadToken → Bool
read_of t st = is_of t st

abbrev pub write_of : ℕ → ℕ → WriteToken → Bool
write_of t st = is_of t st

-- does a token of that tool and stamp stand in a queue
abbrev pub tokens_stand : State → ℕ → ℕ → Bool
tokens_stand s t st = any_of (read_of t st) s.reads || any_of (write_of t st) s.writes
