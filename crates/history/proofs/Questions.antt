-- What the two questions that certification asks of a queue tell of each token in it.
use Rattle.std.proofs.Common.{◌≡◌, ℕ, ◌<◌, true, false, ◌&&◌, eqb, ltb, leb, ◌⊎◌, List, [], ◌∷◌, refl, inl, inr, arith}
use Rattle.std.proofs.lemmas.Bool.{eqb-true, eq-eqb, or_parts, and_parts, and_from, or_cases, both_ways, lt-ltb, leb-false}
use Rattle.queue.specs.Tokens.{Tells, is_at, has, between, reached}

module _ {A : Type 0} (k : Tells A) where
  is_at_tells : (i s : ℕ) (x : A) → is_at k i s x ≡ true → (k.item x ≡ i) × (k.stamp x ≡ s)
  is_at_tells i s x h = let p = and_parts (eqb (k.item x) i) (eqb (k.stamp x) s) h in (eqb-true (k.item x) i p.0, eqb-true (k.stamp x) s p.1)

  pub none_between : (i low high n : ℕ) (q : List A) → between k i low high q ≡ false → has k i n q ≡ true → low < n → n < high → ⊥
  none_between i low high n [] b h l m = both_ways false refl h
  none_between i low high n (x ∷ q) b h l m = go (none_between i low high n q) (or_parts (eqb (k.item x) i && (ltb low (k.stamp x) && ltb (k.stamp x) high)) (between k i low high q) b) (or_cases (is_at k i n x) (has k i n q) h)
    where
      go : (between k i low high q ≡ false → has k i n q ≡ true → low < n → n < high → ⊥)
          → ((eqb (k.item x) i && (ltb low (k.stamp x) && ltb (k.stamp x) high)) ≡ false) × (between k i low high q ≡ false)
          → (is_at k i n x ≡ true) ⊎ (has k i n q ≡ true) → ⊥
      go ih (f, r) (inl a) =
          let p = is_at_tells i n x a in
          both_ways (eqb (k.item x) i && (ltb low (k.stamp x) && ltb (k.stamp x) high)) f
          (and_from (eqb (k.item x) i) (ltb low (k.stamp x) && ltb (k.stamp x) high) (eq-eqb (k.item x) i p.0)
          (and_from (ltb low (k.stamp x)) (ltb (k.stamp x) high) (lt-ltb low (k.stamp x) (let z = p.1 in omega arith)) (lt-ltb (k.stamp x) high (let z = p.1 in omega arith))))
      go ih (f, r) (inr a) = ih r a l m

  pub all_below : (i s n : ℕ) (q : List A) → reached k i s q ≡ false → has k i n q ≡ true → n < s
  all_below i s n [] b h = absurd (both_ways false refl h)
  all_below i s n (x ∷ q) b h = go (all_below i s n q) (or_parts (eqb (k.item x) i && leb s (k.stamp x)) (reached k i s q) b) (or_cases (is_at k i n x) (has k i n q) h)
    where
      go : (reached k i s q ≡ false → has k i n q ≡ true → n < s) → ((eqb (k.item x) i && leb s (k.stamp x)) ≡ false) × (reached k i s q ≡ false)
          → (is_at k i n x ≡ true) ⊎ (has k i n q ≡ true) → n < s
      go ih (f, r) (inl a) =
          let p = is_at_tells i n x a in
          let z = p.1 in
          let c = leb-false s (k.stamp x) (rw (eq-eqb (k.item x) i p.0) at f) in
          omega arith
      go ih (f, r) (inr a) = ih r a
