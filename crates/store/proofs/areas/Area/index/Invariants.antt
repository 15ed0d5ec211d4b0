use Rattle.std.proofs.Common.{◌≡◌, ℕ, ◌<◌, length, get_or, None}
use Rattle.store.specs.Log.{last_place}
use Rattle.store.proofs.areas.Area.index.Given as goal

abbrev pub invariant-loop-place : goal.invariant-loop-place
invariant-loop-place l =
    (length l.latest ≡ 256)
    × ((item : ℕ) → item < 256 → get_or l.latest item None ≡ last_place l.self.bytes.now l.place item)
