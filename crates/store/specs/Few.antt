-- That a store has at most 256 items: what each store gives with its versions. Assumes nothing.
use Rattle.std.specs.Prelude.{ℕ, ◌≤◌, List, ◌++◌, map, length}
use Rattle.std.proofs.Common.{arith, length-take}
use Rattle.std.specs.List.{range_with_len}
use Rattle.std.proofs.lemmas.List.FromFn.{length-map-range_with_len}
use Rattle.store.specs.Pair.{pair}

pub few_made : {X : Type 0} (f : ℕ → X) (count : ℕ) → count ≤ 256 → length (map f (range_with_len 0 count)) ≤ 256
few_made f count few = omega (arith, length-map-range_with_len f 0 count)

pub few_pair : {X : Type 0} (xs ys : List X) → length (pair xs ys) ≤ 256
few_pair xs ys = omega (arith, length-take 256 (xs ++ ys))
