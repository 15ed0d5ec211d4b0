-- What a log that may be opened is, and what it is after a record more and after compaction. Assumes nothing.
use Rattle.std.proofs.Common.{◌≡◌, ℕ, ◌+◌, ◌-◌, ◌*◌, ◌/◌, ◌<◌, ◌≤◌, Bool, true, false, cond, not, ◌||◌, eqb, ltb, List, [], ◌∷◌, ◌++◌, map, length, get_or, drop, set, replicate, is_ok, Some, None, Option, sym, refl, ap, ◌∙◌, subst, arith}
use Rattle.std.specs.List.{range_with_len, list_all, flat_map, slice_get}
use Rattle.std.specs.Option.{option_map}
use Rattle.std.proofs.lemmas.List.FromFn.{length-map-range_with_len}
use Rattle.std.proofs.lemmas.List.{drop_at, get_or-replicate, length-replicate, length_push}
use Rattle.std.proofs.lemmas.List.Sums.{prefix_len-le-length}
use Rattle.std.proofs.lemmas.Bool.{true≢false, cond-true, cond-false, or_parts, or_from, not_from_true, eqb-false, eq-eqb, ne_eqb, ltb-false, lt-ltb, le-ltb}
use Rattle.store.specs.declared.Version.{Version}
use Rattle.store.specs.declared.faults.Fault.TheVariants.{Count, Length, Record, Trailing}
use Rattle.store.specs.Bytes.{over}
use Rattle.store.specs.Faults.{first_of}
use Rattle.store.specs.Log.{checked, used, records, record_at, sound, item_of, version_of, version_from, zero_version, record_of, last_by, last_place, log, kept, image, compacted, appended}
use Rattle.store.proofs.Images.{full, length_image, length_joined, used_image, records_image, image_push, image_is}
use Rattle.store.proofs.Lasts.{last_by_append, last_by_map, last_by_kept, all_kept, length_kept, or_cond}
use Rattle.store.proofs.Made.{nth_made, set_made, map_same}
use Rattle.store.proofs.Passes.{all_of, all_from, all_push}
use Rattle.store.proofs.RecordLaws.{fulls, sound_item, sound_more, record_item}
use Rattle.store.proofs.RoundTrip.{Fits, unpacked_packed}

-- what a buffer that is not refused shows
pub record Good (b : List ℕ) (count : ℕ) : Type 0 where
  pub some : 0 < count
  pub few : count ≤ 256
  pub short : length b ≤ 65536
  pub room : 25 * (count + 1) ≤ length b
  pub sounds : list_all (sound count) (records b) ≡ true
  pub zeroes : list_all (λ x. eqb x 0) (drop (25 * used b) b) ≡ true

-- the four tests of a check, each false
abbrev no_count : ℕ → Bool
no_count count = eqb count 0 || ltb 256 count

abbrev no_length : List ℕ → ℕ → Bool
no_length b count = ltb 65536 (length b) || ltb (length b) (25 * (count + 1))

abbrev no_record : List ℕ → ℕ → Bool
no_record b count = not (list_all (sound count) (records b))

abbrev no_zeroes : List ℕ → Bool
no_zeroes b = not (list_all (λ x. eqb x 0) (drop (25 * used b) b))

none_holds :
    (t u v w : Bool) → is_ok (first_of ((t, Count) ∷ (u, Length) ∷ (v, Record) ∷ (w, Trailing) ∷ [])) ≡ true
    → (t ≡ false) × (u ≡ false) × (v ≡ false) × (w ≡ false)
none_holds false false false false ok = (refl, refl, refl, refl)
none_holds true u v w ok = absurd (true≢false (sym ok))
none_holds false true v w ok = absurd (true≢false (sym ok))
none_holds false false true w ok = absurd (true≢false (sym ok))
none_holds false false false true ok = absurd (true≢false (sym ok))

passes :
    (t u v w : Bool) → t ≡ false → u ≡ false → v ≡ false → w ≡ false
    → is_ok (first_of ((t, Count) ∷ (u, Length) ∷ (v, Record) ∷ (w, Trailing) ∷ [])) ≡ true
passes t u v w a b c d = rw (a, b, c, d)

not_false : (t : Bool) → not t ≡ false → t ≡ true
not_false true e = refl
not_false false e = sym e

pub good_from : (b : List ℕ) (count : ℕ) → is_ok (checked b count) ≡ true → Good b count
good_from b count ok =
    let tests = none_holds (no_count count) (no_length b count) (no_record b count) (no_zeroes b) ok in
    let counts = or_parts (eqb count 0) (ltb 256 count) tests.0 in
    let lengths = or_parts (ltb 65536 (length b)) (ltb (length b) (25 * (count + 1))) tests.1 in
    let some : count ≡ 0 → ⊥ = eqb-false count 0 counts.0 in
    record {
      some = omega arith;
      few = ltb-false 256 count counts.1;
      short = ltb-false 65536 (length b) lengths.0;
      room = ltb-false (length b) (25 * (count + 1)) lengths.1;
      sounds = not_false _ tests.2;
      zeroes = not_false _ tests.3;
    }

pub from_good : (b : List ℕ) (count : ℕ) → Good b count → is_ok (checked b count) ≡ true
from_good b count g =
    passes (no_count count) (no_length b count) (no_record b count) (no_zeroes b)
    (or_from (eqb count 0) (ltb 256 count) (ne_eqb count 0 (λ e. omega (arith, g.some))) (le-ltb 256 count g.few))
    (or_from (ltb 65536 (length b)) (ltb (length b) (25 * (count + 1))) (le-ltb 65536 (length b) g.short) (le-ltb (length b) (25 * (count + 1)) g.room))
    (not_from_true _ g.sounds)
    (not_from_true _ g.zeroes)

pub used_fits : (b : List ℕ) → 25 * used b ≤ length b
used_fits b =
    let long = length-map-range_with_len (record_at b) 0 (length b / 25) in
    omega (arith, prefix_len-le-length (λ r. not (eqb (get_or r 0 0) 0)) (map (record_at b) (range_with_len 0 (length b / 25))))

pub is_image : (b : List ℕ) (count : ℕ) → Good b count → b ≡ image (records b) (length b)
is_image b count g = image_is b (used b) g.zeroes

-- records in a buffer that is long enough, and then zeroes
pub image_good :
    (rs : List (List ℕ)) (size count : ℕ)
    → 0 < count → count ≤ 256 → size ≤ 65536 → 25 * (count + 1) ≤ size
    → list_all (sound count) rs ≡ true → list_all full rs ≡ true → 25 * length rs ≤ size
    → Good (image rs size) count
image_good rs size count some few short room sounds fulls fits =
    let long = length_image rs size fulls fits in
    let n = used_image rs size fulls fits in
    let rest : drop (25 * used (image rs size)) (image rs size) ≡ replicate (size - 25 * length rs) 0 =
    ap (λ k. drop (25 * k) (image rs size)) n
    ∙ drop_at (flat_map (λ r. r) rs) (replicate (size - 25 * length rs) 0) (25 * length rs) (length_joined rs fulls) in
    record {
      some = some;
      few = few;
      short = omega arith;
      room = omega arith;
      sounds = ap (list_all (sound count)) (records_image rs size fulls fits) ∙ sounds;
      zeroes =
          ap (list_all (λ x. eqb x 0)) rest
          ∙ all_from (λ x. eqb x 0) (replicate (size - 25 * length rs) 0) 0
          (λ k below. eq-eqb _ 0 (get_or-replicate (size - 25 * length rs) k 0 0 (omega (arith, length-replicate {A = ℕ} (size - 25 * length rs) 0))));
    }

-- the meaning, by the records
abbrev pub from_last : Option (List ℕ) → Version
from_last None = zero_version
from_last (Some r) = version_of r

from_mapped : (b : List ℕ) (o : Option ℕ) → version_from b o ≡ from_last (option_map (record_at b) o)
from_mapped b None = refl
from_mapped b (Some place) = refl

abbrev meant : List (List ℕ) → ℕ → Version
meant rs item = from_last (last_by item_of item rs)

version_is : (b : List ℕ) (item : ℕ) → version_from b (last_place b (used b) item) ≡ meant (records b) item
version_is b item =
    from_mapped b (last_place b (used b) item) ∙ ap from_last (sym (last_by_map (record_at b) item_of item (range_with_len 0 (used b))))

-- compaction
pub record Compacted (b : List ℕ) (count : ℕ) : Type 0 where
  pub good : Good (compacted b) count
  pub fewer : used (compacted b) ≡ length (kept (records b))
  pub frees : 25 * (used (compacted b) + 1) ≤ length b
  pub long : length (compacted b) ≡ length b
  pub same : log (compacted b) count ≡ log b count

pub compaction : (b : List ℕ) (count : ℕ) → Good b count → Compacted b count
compaction b count g =
    let rs : List (List ℕ) = kept (records b) in
    let whole = all_kept full (records b) (fulls b count (used b) (used_fits b) g.sounds) in
    let sounds = all_kept (sound count) (records b) g.sounds in
    let least = length_kept count (records b) (all_of (sound count) (λ r. ltb (item_of r) count) (sound_item count) (records b) g.sounds) in
    let room = g.room in
    let n = used_image rs (length b) whole (omega arith) in
    let back : records (compacted b) ≡ rs = records_image rs (length b) whole (omega arith) in
    record {
      good = image_good rs (length b) count g.some g.few g.short g.room sounds whole (omega arith);
      fewer = n;
      frees = omega arith;
      long = length_image rs (length b) whole (omega arith);
      same =
          map_same (λ item. version_from (compacted b) (last_place (compacted b) (used (compacted b)) item)) (λ item. version_from b (last_place b (used b) item)) count
          (λ item.
          version_is (compacted b) item
          ∙ ap (λ l. meant l item) back
          ∙ ap from_last (last_by_kept item (records b))
          ∙ sym (version_is b item));
    }

-- one record more
record_version : (item : ℕ) (v : Version) → Fits 4 v → version_of (record_of item v) ≡ v
record_version item v small = unpacked_packed 4 v small

pub record Appended (b : List ℕ) (count item : ℕ) (v : Version) : Type 0 where
  pub good : Good (appended item v b) count
  pub more : used (appended item v b) ≡ used b + 1
  pub long : length (appended item v b) ≡ length b
  pub after : log (appended item v b) count ≡ set (log b count) item v

pub appending :
    (b : List ℕ) (count item : ℕ) (v : Version) → Good b count → item < count → 25 * (used b + 1) ≤ length b → Fits 4 v
    → Appended b count item v
appending b count item v g below room small =
    let r : List ℕ = record_of item v in
    let rs : List (List ℕ) = records b ++ r ∷ [] in
    let few = g.few in
    let n : length (records b) ≡ used b = length-map-range_with_len (record_at b) 0 (used b) in
    let pushed : length rs ≡ used b + 1 = length_push (records b) r ∙ omega arith in
    let item-is : item_of r ≡ item = record_item item v (omega arith) in
    let whole : list_all full rs ≡ true = all_push full (records b) r (fulls b count (used b) (used_fits b) g.sounds) refl in
    let sounds : list_all (sound count) rs ≡ true = all_push (sound count) (records b) r g.sounds (ap (λ k. ltb k count) item-is ∙ lt-ltb item count below) in
    let is : appended item v b ≡ image rs (length b) =
    ap (λ l. over (25 * used b) r l) (is_image b count g)
    ∙ ap (λ k. over (25 * k) r (image (records b) (length b))) (sym n)
    ∙ image_push (records b) r (length b) (fulls b count (used b) (used_fits b) g.sounds) refl in
    let back : records (appended item v b) ≡ rs = ap records is ∙ records_image rs (length b) whole (omega arith) in
    let count-is : used (appended item v b) ≡ used b + 1 = ap used is ∙ used_image rs (length b) whole (omega arith) ∙ pushed in
    let last : (i : ℕ) → last_by item_of i rs ≡ cond (eqb item i) (Some r) (last_by item_of i (records b)) =
    λ i. last_by_append item_of i (records b) (r ∷ []) ∙ or_cond (eqb (item_of r) i) r (last_by item_of i (records b)) ∙ ap (λ k. cond (eqb k i) (Some r) (last_by item_of i (records b))) item-is in
    let meaning : (i : ℕ) → version_from (appended item v b) (last_place (appended item v b) (used (appended item v b)) i) ≡ from_last (cond (eqb item i) (Some r) (last_by item_of i (records b))) =
    λ i. version_is (appended item v b) i ∙ ap (λ l. meant l i) back ∙ ap from_last (last i) in
    record {
      good = subst (λ l. Good l count) (sym is) (image_good rs (length b) count g.some g.few g.short g.room sounds whole (omega arith));
      more = count-is;
      long = ap length is ∙ length_image rs (length b) whole (omega arith);
      after =
          set_made (λ i. version_from b (last_place b (used b) i)) (λ i. version_from (appended item v b) (last_place (appended item v b) (used (appended item v b)) i)) count item v
          (λ _. meaning item ∙ ap from_last (cond-true _ (Some r) (last_by item_of item (records b)) (eq-eqb item item refl)) ∙ record_version item v small)
          (λ i _ apart. meaning i ∙ ap from_last (cond-false _ (Some r) (last_by item_of i (records b)) (ne_eqb item i (λ e. apart (sym e)))) ∙ sym (version_is b i));
    }

-- a log's items are the most that a store may have, at most
pub most : (b : List ℕ) (count : ℕ) → Good b count → list_all (sound 256) (records b) ≡ true
most b count g = sound_more count 256 (records b) g.few g.sounds

-- an item's version, by the place of its last record
pub log_get :
    (b : List ℕ) (count item n : ℕ) → item < count → n ≡ used b
    → slice_get (log b count) item ≡ Some (version_from b (last_place b n item))
log_get b count item n below is =
    nth_made (λ i. version_from b (last_place b (used b) i)) count item below
    ∙ ap (λ k. Some (version_from b (last_place b k item))) (sym is)

-- what holds after a compaction, in the words of the code
pub record Shrunk (b after : List ℕ) (count m : ℕ) : Type 0 where
  pub good : Good after count
  pub counts : m ≡ used after
  pub is : after ≡ compacted b
  pub same : log after count ≡ log b count
  pub room : 25 * (m + 1) ≤ length after

pub shrinks :
    (b after : List ℕ) (count n m : ℕ) → Good b count → n ≡ used b
    → after ≡ image (kept (map (record_at b) (range_with_len 0 n))) (length b)
    → m ≡ length (kept (map (record_at b) (range_with_len 0 n)))
    → Shrunk b after count m
shrinks b after count n m g is made counted =
    let comp = compaction b count g in
    let same : after ≡ compacted b = made ∙ ap (λ k. image (kept (map (record_at b) (range_with_len 0 k))) (length b)) is in
    let counts : m ≡ used after = counted ∙ ap (λ k. length (kept (map (record_at b) (range_with_len 0 k)))) is ∙ sym comp.fewer ∙ ap used (sym same) in
    record {
      good = subst (λ l. Good l count) (sym same) comp.good;
      counts = counts;
      is = same;
      same = ap (λ l. log l count) same ∙ comp.same;
      room = omega (arith, comp.frees, comp.long, ap length same, ap used same, counts);
    }

-- and after a record more
pub record Grown (b after : List ℕ) (count item n : ℕ) (v : Version) : Type 0 where
  pub good : Good after count
  pub counts : n + 1 ≡ used after
  pub is : after ≡ appended item v b
  pub versions : log after count ≡ set (log b count) item v

pub grows :
    (b after : List ℕ) (count item n : ℕ) (v : Version)
    → Good b count → n ≡ used b → item < count → 25 * (n + 1) ≤ length b → Fits 4 v
    → after ≡ over (25 * n) (record_of item v) b
    → Grown b after count item n v
grows b after count item n v g is below room small made =
    let app = appending b count item v g below (omega arith) small in
    let same : after ≡ appended item v b = made ∙ ap (λ k. over (25 * k) (record_of item v) b) is in
    record {
      good = subst (λ l. Good l count) (sym same) app.good;
      counts = omega (arith, app.more, ap used same);
      is = same;
      versions = ap (λ l. log l count) same ∙ app.after;
    }
