use Rattle.std.proofs.Common.{◌≡◌, ◌≤◌, Bool, length, take}
use Rattle.service.specs.declared.tools.Stand.{Stand}
use Rattle.service.specs.Views.{items_of, items_where}
use Rattle.service.proofs.tools.Tool.items.Given as goal

abbrev pub invariant-loop-entry : goal.invariant-loop-entry
invariant-loop-entry g l = record {
  room : length (items_of l.items) ≤ l.entry-index;
  so_far : (p : Stand → Bool) → ((a : Stand) (b : Bool) → goal.P-post g l.wanted a b → b ≡ p a) → items_of l.items ≡ items_where p (take l.entry-index l.entry-items);
}
