-- Compaction, record by record. Assumes nothing.
use Rattle.std.proofs.Common.{◌≡◌, ℕ, ◌+◌, ◌*◌, ◌<◌, ◌≤◌, List, [], ◌++◌, map, length, take, drop, Some, sym, ap, ◌∙◌, subst, arith}
use Rattle.std.specs.List.{range_with_len, flat_map}
use Rattle.std.proofs.lemmas.List.FromFn.{length-map-range_with_len}
use Rattle.std.proofs.lemmas.List.{append_assoc, append-nil, drop-drop, drop_all}
use Rattle.store.specs.Bytes.{part, over}
use Rattle.store.specs.Log.{record_at, last_place, kept, item_of}
use Rattle.store.proofs.Lasts.{turn}
use Rattle.store.proofs.Places.{length_part, length_over, take_over, drop_over}

-- the first n records of a buffer, and their bytes
abbrev pub firsts : List ℕ → ℕ → List (List ℕ)
firsts buffer n = map (record_at buffer) (range_with_len 0 n)

abbrev bytes_of : List (List ℕ) → List ℕ
bytes_of rs = flat_map (λ r. r) rs

-- `place` records are looked at and `end` of them kept, at the front of the buffer
pub record Pass (old bytes : List ℕ) (n place end : ℕ) : Type 0 where
  pub rest : drop (25 * place) bytes ≡ drop (25 * place) old
  pub front : take (25 * end) bytes ++ bytes_of (kept (drop place (firsts old n))) ≡ bytes_of (kept (firsts old n))
  pub count : end + length (kept (drop place (firsts old n))) ≡ length (kept (firsts old n))
  pub behind : end ≤ place
  pub long : length bytes ≡ length old

next : (old bytes : List ℕ) (place : ℕ) → drop (25 * place) bytes ≡ drop (25 * place) old → drop (25 * (place + 1)) bytes ≡ drop (25 * (place + 1)) old
next old bytes place same =
    let step : 25 * place + 25 ≡ 25 * (place + 1) = omega arith in
    ap (λ k. drop k bytes) (sym step)
    ∙ sym (drop-drop 25 (25 * place) bytes)
    ∙ ap (drop 25) same
    ∙ drop-drop 25 (25 * place) old
    ∙ ap (λ k. drop k old) step

pub pass_drop :
    (old bytes : List ℕ) (n place end : ℕ) → Pass old bytes n place end → place < n
    → (last_place old n (item_of (record_at old place)) ≡ Some place → ⊥)
    → Pass old bytes n (place + 1) end
pass_drop old bytes n place end p below later =
    let same = (turn (record_at old) n place below).later later in
    record {
      rest = next old bytes place p.rest;
      front = ap (λ rs. take (25 * end) bytes ++ bytes_of rs) (sym same) ∙ p.front;
      count = ap (λ rs. end + length rs) (sym same) ∙ p.count;
      behind = omega arith;
      long = p.long;
    }

pub moved_is : (old bytes : List ℕ) (place : ℕ) → drop (25 * place) bytes ≡ drop (25 * place) old → record_at bytes place ≡ record_at old place
moved_is old bytes place same = ap (take 25) same

pub pass_keep :
    (old bytes : List ℕ) (n place end : ℕ) → Pass old bytes n place end → place < n → 25 * n ≤ length old
    → last_place old n (item_of (record_at old place)) ≡ Some place
    → Pass old (over (25 * end) (part (25 * place) 25 bytes) bytes) n (place + 1) (end + 1)
pass_keep old bytes n place end p below fits last =
    let split = (turn (record_at old) n place below).last last in
    let r : List ℕ = part (25 * place) 25 bytes in
    let new : List ℕ = over (25 * end) r bytes in
    let same : r ≡ record_at old place = moved_is old bytes place p.rest in
    let behind = p.behind in
    let long = p.long in
    let size = length_part (25 * place) 25 bytes (omega arith) in
    let later : List (List ℕ) = kept (drop (place + 1) (firsts old n)) in
    let front : take (25 * (end + 1)) new ≡ take (25 * end) bytes ++ r = take_over (25 * end) (25 * (end + 1)) r bytes (omega arith) (omega arith) in
    let count = p.count in
    record {
      rest = drop_over (25 * end) (25 * (place + 1)) r bytes (omega arith) (omega arith) ∙ next old bytes place p.rest;
      front =
          ap (λ l. l ++ bytes_of later) front
          ∙ append_assoc (take (25 * end) bytes) r (bytes_of later)
          ∙ ap (λ x. take (25 * end) bytes ++ (x ++ bytes_of later)) same
          ∙ ap (λ rs. take (25 * end) bytes ++ bytes_of rs) (sym split)
          ∙ p.front;
      count = omega (arith, ap length split);
      behind = omega arith;
      long = length_over (25 * end) r bytes (omega arith) ∙ long;
    }

-- the same under other names
pub pass_at :
    (old bytes same : List ℕ) (n place end least : ℕ) → Pass old bytes n place end → same ≡ bytes → least ≡ end
    → Pass old same n place least
pass_at old bytes same n place end least p e f =
    subst (λ b. Pass old b n place least) (sym e) (subst (λ k. Pass old bytes n place k) (sym f) p)

pub record Passed (old bytes : List ℕ) (n end : ℕ) : Type 0 where
  pub count : end ≡ length (kept (firsts old n))
  pub front : take (25 * end) bytes ≡ bytes_of (kept (firsts old n))

pub pass_all : (old bytes : List ℕ) (n place end : ℕ) → Pass old bytes n place end → n ≤ place → Passed old bytes n end
pass_all old bytes n place end p done =
    let none : drop place (firsts old n) ≡ [] = drop_all place (firsts old n) (omega (arith, length-map-range_with_len (record_at old) 0 n)) in
    record {
      count = omega (arith, p.count, ap (λ rs. length (kept rs)) none);
      front = sym (append-nil (take (25 * end) bytes)) ∙ ap (λ rs. take (25 * end) bytes ++ bytes_of (kept rs)) (sym none) ∙ p.front;
    }
