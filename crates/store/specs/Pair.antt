-- Two stores side by side. Assumes nothing.
use Rattle.std.specs.Prelude.{◌≡◌, ℕ, ◌+◌, ◌<◌, ◌≤◌, List, ◌++◌, take, Some, None, Option}
use Rattle.store.specs.declared.pairs.Half.{Half}
use Rattle.store.specs.declared.pairs.Half.TheVariants.{First, Second}

-- the first one's, then the second one's, and no more than a store may have
abbrev pub pair : {X : Type 0} → List X → List X → List X
pair xs ys = take 256 (xs ++ ys)

-- where an item stands, if the first store has `seam` items
abbrev pub Located : ℕ → ℕ → Option Half → Type 0
Located seam item (Some (First place)) = (place ≡ item) × (item < seam)
Located seam item (Some (Second place)) = (seam + place ≡ item) × (item < 256)
Located seam item None = (seam ≤ item) × (256 ≤ item)
