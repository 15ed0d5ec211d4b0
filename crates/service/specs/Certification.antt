-- The rules of certification. They look at stamps only.
use Rattle.std.specs.Prelude.{ℕ, Bool, false, not, ◌&&◌, [], ◌∷◌, is_some, Some, None, Option, Ok, Err, Result, ◌==◌, nat_le, nat_lt}
use Rattle.std.specs.Option.{unwrap_or}
use Rattle.service.specs.declared.refusals.Refusal.{Refusal}
use Rattle.service.specs.declared.refusals.Refusal.TheVariants.{VersionChanged, BehindWrite, WriteBetween, BehindRead, ReadStands}
use Rattle.service.specs.declared.certification.Claim.{Claim}
use Rattle.service.specs.declared.certification.Standing.{Standing}
use Rattle.service.specs.Refusals.{Rules}

-- the item as the claim meets it: its two stamps, whether a write token lies above twrite and below the claim's
-- stamp, and whether a read token lies at that stamp or above
pub record Found : Type 0 where
  pub twrite : ℕ
  pub tread : ℕ
  pub crossed : Bool
  pub reached : Bool

abbrev pub certification : Claim → Found → Rules
certification q f =
    (is_some q.seen && not (f.twrite == unwrap_or q.seen 0), VersionChanged)
    ∷ (is_some q.seen && nat_le q.stamp f.twrite, BehindWrite)
    ∷ (is_some q.seen && f.crossed, WriteBetween)
    ∷ (q.written && nat_le q.stamp f.tread, BehindRead)
    ∷ (q.written && f.reached, ReadStands)
    ∷ []

abbrev pub is_below : Option ℕ → ℕ → Bool
is_below None s = false
is_below (Some n) s = nat_lt n s

abbrev pub is_from : Option ℕ → ℕ → Bool
is_from None s = false
is_from (Some n) s = nat_le s n

-- what the oldest write token above twrite and the youngest read token tell
abbrev pub met : ℕ → Standing → Found
met s n = record { twrite = n.twrite; tread = n.tread; crossed = is_below n.writer s; reached = is_from n.reader s }

-- the first rule that is true rejects
abbrev pub judged : Option Refusal → Result (Unit {0}) Refusal
judged None = Ok tt
judged (Some r) = Err r
