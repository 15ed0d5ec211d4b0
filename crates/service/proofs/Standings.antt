-- What the oldest write token and the youngest read token tell is what the rules ask of all tokens.
use Rattle.std.proofs.Common.{◌≡◌, ℕ, Bool, true, List, Some, None, Option, sym, refl, ap, ◌∙◌, subst}
use Rattle.std.specs.Option.{option_map, UnwrapsOrElse}
use Rattle.std.specs.List.{slice_get}
use Rattle.std.proofs.lemmas.List.{get_or_past}
use Rattle.store.specs.declared.Version.{Version}
use Rattle.queue.specs.Tokens.{Tells, oldest, youngest, below, at_least, ascending}
use Rattle.queue.proofs.Ends.{oldest_tells, youngest_tells}
use Rattle.service.specs.Certification.{Found, is_below, is_from, met}
use Rattle.service.specs.Service.{State, read_tells, write_tells, version, meets}
use Rattle.service.proofs.Replies.{got, past_end}

below_stamp : {A : Type 0} (k : Tells A) (o : Option A) (s : ℕ) → is_below (option_map k.stamp o) s ≡ below k o s
below_stamp k None s = refl
below_stamp k (Some x) s = refl

from_stamp : {A : Type 0} (k : Tells A) (o : Option A) (s : ℕ) → is_from (option_map k.stamp o) s ≡ at_least k o s
from_stamp k None s = refl
from_stamp k (Some x) s = refl

-- the version that get answered, or the default
pub version_or : (vs : List Version) (i : ℕ) (f : Option Version) → slice_get vs i ≡ f
    → (P : Version → Type 0) → ((w : Version) → P w → w ≡ record { value = 0; twrite = 0; tread = 0 }) → (v : Version) → UnwrapsOrElse f P v → version vs i ≡ v
version_or vs i None h P z v u = get_or_past vs i (record { value = 0; twrite = 0; tread = 0 }) (past_end vs i h) ∙ sym (z v u)
version_or vs i (Some w) h P z v u = (got vs i w h).1 ∙ sym u

module _ (s : State) (i st : ℕ) (reads : ascending read_tells s.reads ≡ true) (writes : ascending write_tells s.writes ≡ true) where
  abbrev Same : Version → Type 0
  Same v = (w r : Option ℕ) → w ≡ option_map write_tells.stamp (oldest write_tells i v.twrite s.writes) → r ≡ option_map read_tells.stamp (youngest read_tells i s.reads)
      → met st (record { twrite = v.twrite; tread = v.tread; writer = w; reader = r }) ≡ meets s i st

  here : Same (version s.versions i)
  here w r p q =
      let of : Bool → Bool → Found = λ a b. record { twrite = (version s.versions i).twrite; tread = (version s.versions i).tread; crossed = a; reached = b } in
      let a = ap (λ (o : Option ℕ). is_below o st) p
      ∙ (below_stamp write_tells (oldest write_tells i (version s.versions i).twrite s.writes) st
      ∙ sym (oldest_tells write_tells i (version s.versions i).twrite st s.writes writes))
      in
      let b = ap (λ (o : Option ℕ). is_from o st) q
      ∙ (from_stamp read_tells (youngest read_tells i s.reads) st ∙ sym (youngest_tells read_tells i st s.reads reads))
      in
      ap (λ (x : Bool). of x (is_from r st)) a ∙ ap (of _) b

  pub standing_meets : (v : Version) → version s.versions i ≡ v → Same v
  standing_meets v e = subst Same e here
