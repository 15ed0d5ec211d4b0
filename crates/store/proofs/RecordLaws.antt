-- What holds of the records in a buffer: of each, after one more, and after compaction. Assumes nothing.
use Rattle.std.proofs.Common.{◌≡◌, ℕ, ◌+◌, ◌-◌, ◌*◌, ◌<◌, ◌≤◌, true, cond, not, eqb, ltb, List, ◌++◌, length, get_or, take, set, replicate, Some, None, Option, sym, ap, ◌∙◌, inl, ⊎_elim, arith}
use Rattle.std.specs.List.{list_all, flat_map}
use Rattle.std.proofs.lemmas.List.{take_at}
use Rattle.std.proofs.lemmas.Bool.{and_parts, and_from, eqb-true, eq-eqb, ne_eqb, ltb-true, lt-ltb, cases_eq}
use Rattle.store.specs.declared.Version.{Version}
use Rattle.store.specs.Bytes.{over, number_in, bytes_of}
use Rattle.store.specs.Log.{record_at, record_of, sound, headed, item_of, last_place, kept, image}
use Rattle.store.specs.Packed.{packed}
use Rattle.store.proofs.Compacts.{firsts, Pass, pass_all}
use Rattle.store.proofs.Images.{full, length_image, firsts_image}
use Rattle.store.proofs.Lasts.{all_kept, last_place_more, last_by_same, last_by_within, noted}
use Rattle.store.proofs.Numbers.{length_bytes_of, number_in_bytes_of}
use Rattle.store.proofs.Passes.{all_of, all_made, all_made_at}
use Rattle.store.proofs.Places.{length_part, part_over_same, part_over_other}

-- a sound record has a tag and an item
sound_tag : (count : ℕ) (r : List ℕ) → sound count r ≡ true → get_or r 0 0 ≡ 82
sound_tag count r h =
    let parts = and_parts (headed r) (ltb (item_of r) count) h in
    eqb-true (get_or r 0 0) 82 (and_parts (eqb (get_or r 0 0) 82) _ parts.0).0

pub sound_item : (count : ℕ) (r : List ℕ) → sound count r ≡ true → ltb (item_of r) count ≡ true
sound_item count r h = (and_parts (headed r) (ltb (item_of r) count) h).1

pub sound_more : (few most : ℕ) (rs : List (List ℕ)) → few ≤ most → list_all (sound few) rs ≡ true → list_all (sound most) rs ≡ true
sound_more few most rs within all =
    all_of (sound few) (sound most)
    (λ r h.
    let parts = and_parts (headed r) (ltb (item_of r) few) h in
    let below = ltb-true (item_of r) few parts.1 in
    and_from (headed r) (ltb (item_of r) most) parts.0 (lt-ltb (item_of r) most (omega arith)))
    rs all

pub item_below : (b : List ℕ) (count n k : ℕ) → list_all (sound count) (firsts b n) ≡ true → k < n → item_of (record_at b k) < count
item_below b count n k all below = ltb-true _ count (sound_item count (record_at b k) (all_made_at (sound count) (record_at b) n k all below))

pub fulls : (b : List ℕ) (count n : ℕ) → 25 * n ≤ length b → list_all (sound count) (firsts b n) ≡ true → list_all full (firsts b n) ≡ true
fulls b count n fits all =
    all_made full (record_at b) n (λ k below.
    let tag = sound_tag count (record_at b k) (all_made_at (sound count) (record_at b) n k all below) in
    and_from _ _ (eq-eqb _ 25 (length_part (25 * k) 25 b (omega arith)))
    (ap not (ne_eqb _ 0 (λ e. omega (arith, tag, e)))))

pub record_item : (item : ℕ) (v : Version) → item < 65536 → item_of (record_of item v) ≡ item
record_item item v small = ap number_in (take_at (bytes_of 2 item) (packed v) 2 (length_bytes_of 2 item)) ∙ number_in_bytes_of 2 item small

-- the last record of an item is one of the first n
pub last_fits : (b : List ℕ) (n item place : ℕ) → 25 * n ≤ length b → last_place b n item ≡ Some place → 25 * (place + 1) ≤ length b
last_fits b n item place fits at = omega (arith, (last_by_within (λ k. item_of (record_at b k)) item 0 n place at).1)

-- one record more
pub record Pushed (after : List ℕ) (latest : List (Option ℕ)) (item n : ℕ) : Type 0 where
  pub sounds : list_all (sound 256) (firsts after (n + 1)) ≡ true
  pub index : (i : ℕ) → i < 256 → get_or (set latest item (Some n)) i None ≡ last_place after (n + 1) i

pub pushed :
    (b after : List ℕ) (latest : List (Option ℕ)) (item n : ℕ) (v : Version)
    → 25 * (n + 1) ≤ length b → item < 256 → length latest ≡ 256
    → list_all (sound 256) (firsts b n) ≡ true
    → ((i : ℕ) → i < 256 → get_or latest i None ≡ last_place b n i)
    → after ≡ over (25 * n) (record_of item v) b
    → Pushed after latest item n
pushed b after latest item n v room below wide sounds index made =
    let r : List ℕ = record_of item v in
    let new : record_at after n ≡ r = ap (λ l. record_at l n) made ∙ part_over_same (25 * n) r b (omega arith) in
    let old : (k : ℕ) → k < n → record_at after k ≡ record_at b k =
    λ k h. ap (λ l. record_at l k) made ∙ part_over_other (25 * k) 25 (25 * n) r b (omega arith) (inl (omega arith)) in
    let item-is : item_of r ≡ item = record_item item v (omega arith) in
    record {
      sounds =
          all_made (sound 256) (record_at after) (n + 1)
          (λ k h. ⊎_elim
          (λ e. ap (λ j. sound 256 (record_at after j)) e ∙ ap (sound 256) new ∙ ap (λ i. ltb i 256) item-is ∙ lt-ltb item 256 below)
          (λ apart. let h' : k < n = omega arith in ap (sound 256) (old k h') ∙ all_made_at (sound 256) (record_at b) n k sounds h')
          (cases_eq k n));
      index = λ i h.
          noted latest item n i (last_place b n i) (last_place after (n + 1) i) (omega arith) (index i h)
          (last_place_more after n i
          ∙ ap (λ k. cond (eqb k i) (Some n) (last_place after n i)) (ap item_of new ∙ item-is)
          ∙ ap (cond (eqb item i) (Some n))
          (last_by_same (λ k. item_of (record_at after k)) (λ k. item_of (record_at b k)) i 0 n (λ k h'. ap item_of (old k (omega arith)))));
    }

-- compaction, once every record is looked at and the rest is zeroed
pub record Sifted (old after : List ℕ) (n end : ℕ) : Type 0 where
  pub bytes : after ≡ image (kept (firsts old n)) (length old)
  pub used : end ≡ length (kept (firsts old n))
  pub sounds : list_all (sound 256) (firsts after end) ≡ true
  pub fits : 25 * end ≤ length after

pub sifted :
    (old bytes after : List ℕ) (n place end : ℕ)
    → Pass old bytes n place end → n ≤ place → place ≤ n → 25 * n ≤ length old
    → list_all (sound 256) (firsts old n) ≡ true
    → after ≡ take (25 * end) bytes ++ replicate (length bytes - 25 * end) 0
    → Sifted old after n end
sifted old bytes after n place end p done within fits sounds cleared =
    let all = pass_all old bytes n place end p done in
    let rs : List (List ℕ) = kept (firsts old n) in
    let whole = all_kept full (firsts old n) (fulls old 256 n fits sounds) in
    let behind = p.behind in
    let count = all.count in
    let is : after ≡ image rs (length old) =
    cleared ∙ ap (λ l. l ++ replicate (length bytes - 25 * end) 0) all.front
    ∙ ap (λ k. flat_map (λ x. x) rs ++ replicate k 0) (omega (arith, p.long)) in
    record {
      bytes = is;
      used = count;
      sounds =
          ap (list_all (sound 256)) (ap (λ l. firsts l end) is ∙ ap (firsts (image rs (length old))) count ∙ firsts_image rs (length old) whole)
          ∙ all_kept (sound 256) (firsts old n) sounds;
      fits = omega (arith, ap length is, length_image rs (length old) whole (omega arith));
    }

-- the same, each part as the function that compacts states it
pub sifted_sounds :
    (old bytes after : List ℕ) (n place end : ℕ)
    → Pass old bytes n place end → n ≤ place → place ≤ n → 25 * n ≤ length old
    → list_all (sound 256) (firsts old n) ≡ true
    → after ≡ take (25 * end) bytes ++ replicate (length bytes - 25 * end) 0
    → list_all (sound 256) (firsts after end) ≡ true
sifted_sounds old bytes after n place end p done within fits sounds cleared = (sifted old bytes after n place end p done within fits sounds cleared).sounds

pub sifted_front :
    (old bytes : List ℕ) (n place end : ℕ)
    → Pass old bytes n place end → n ≤ place
    → flat_map (λ r. r) (kept (firsts old n)) ≡ take (25 * end) bytes
sifted_front old bytes n place end p done = sym (pass_all old bytes n place end p done).front

pub sifted_used :
    (old bytes : List ℕ) (n place end : ℕ)
    → Pass old bytes n place end → n ≤ place
    → length (kept (firsts old n)) ≡ end
sifted_used old bytes n place end p done = sym (pass_all old bytes n place end p done).count
