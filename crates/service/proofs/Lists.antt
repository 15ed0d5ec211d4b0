-- Lists as the code writes and reads them.
use Rattle.std.proofs.Common.{◌≡◌, ℕ, zero, suc, ◌<◌, List, [], ◌∷◌, ◌++◌, map, length, get_or, Bool, false, ◌&&◌, ◌==◌, Some, None, Option, MatchOption, Bor, sym, take, set, replicate, refl, ap, ◌∙◌, arith}
use Rattle.std.proofs.lemmas.List.{append-nil, drop_all, take_all}
use Rattle.std.proofs.Math.ListN.{length-set}
use Rattle.std.specs.List.{refill}
use Rattle.service.specs.declared.tools.Tool.{Tool}
use Rattle.service.specs.declared.tools.Phase.{Phase}
use Rattle.service.specs.declared.tools.Phase.TheVariants.{Idle}
use Rattle.service.specs.Service.{Seat, is, fresh}
use Rattle.service.specs.Desks.{seat_of}

-- what a write of the whole list leaves
pub refilled : {X : Type 0} (xs ws : List X) → length ws ≡ length xs → refill (length xs) xs ws ≡ ws
refilled xs ws e = ap (λ l. take (length xs) (ws ++ l)) (drop_all (length ws) xs (omega arith)) ∙ ap (take (length xs)) (append-nil ws) ∙ take_all (length xs) ws (omega arith)

-- and one of its elements, where the list is read by another name
pub rewritten : {X : Type 0} (xs seen : List X) (k : ℕ) (x : X) → seen ≡ xs → refill (length xs) xs (set seen k x) ≡ set xs k x
rewritten xs seen k x e = rw e (refilled xs (set xs k x) (simp length-set))

-- a list of n elements that f maps to one value
pub constant : {X Y : Type 0} (f : X → Y) (y : Y) (n : ℕ) (xs : List X) → length xs ≡ n → ((i : ℕ) (d : X) → i < n → f (get_or xs i d) ≡ y) → map f xs ≡ replicate n y
constant f y zero [] e h = refl
constant f y zero (x ∷ xs) e h = absurd (omega arith)
constant f y (suc n) [] e h = absurd (omega arith)
constant f y (suc n) (x ∷ xs) e h = ap (λ z. z ∷ map f xs) (h 0 x (omega arith)) ∙ ap (λ l. y ∷ l) (constant f y n xs (omega arith) (λ i d l. h (suc i) d (omega arith)))

-- what a look at a tool's seat tells, where there is a tool
pub seen_under : {P : Bor Tool → Type 0} (p : Phase) (st : ℕ) (o : Option (Bor Tool)) (x : Seat) (r : Bool)
    → MatchOption o (x ≡ fresh 0) (λ own. x ≡ seat_of own.now) → MatchOption o (r ≡ false) P
    → ((own : Bor Tool) → P own → r ≡ (is own.now.phase p && own.now.stamp == st)) → is Idle p ≡ false → r ≡ (is x.phase p && x.stamp == st)
seen_under p st None x r e m k i = rw (e, i, m)
seen_under p st (Some own) x r e m k i = k own m ∙ ap (λ (y : Seat). is y.phase p && y.stamp == st) (sym e)
