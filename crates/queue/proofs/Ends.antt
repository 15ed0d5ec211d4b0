-- In ascending order the oldest token above a stamp, or the youngest, answers for all.
use Rattle.std.proofs.Common.{◌≡◌, ℕ, ◌≤◌, Bool, true, false, cond, ◌&&◌, ◌||◌, eqb, ltb, leb, List, [], ◌∷◌, reverse, IfSome, Some, None, Option, sym, refl, ap, ◌∙◌, arith}
use Rattle.std.proofs.lemmas.Bool.{and_parts, ltb-false, leb-true}
use Rattle.std.proofs.lemmas.Bool.Decides.{nat_tests}
use Rattle.std.proofs.lemmas.List.{reverse-append}
use Rattle.std.proofs.lemmas.List.Folds.{find-append}
use Rattle.std.specs.List.{find}
use Rattle.std.specs.Option.{option_or}
use Rattle.queue.specs.Tokens.{Tells, oldest, youngest, between, reached, above, ascending, below, at_least}

module _ {A : Type 0} (k : Tells A) where
  none_between : (i low high s : ℕ) (q : List A) → above k s q ≡ true → high ≤ s → between k i low high q ≡ false
  none_between i low high s [] a h = refl
  none_between i low high s (x ∷ q) a h =
      let p = and_parts (leb s (k.stamp x)) (above k s q) a in
      let l = leb-true s (k.stamp x) p.0 in
      let w = none_between i low high s q p.1 h in
      grind (arith, nat_tests)

  pub oldest_tells : (i low high : ℕ) (q : List A) → ascending k q ≡ true → between k i low high q ≡ below k (oldest k i low q) high
  oldest_tells i low high [] a = refl
  oldest_tells i low high (x ∷ q) a =
      let p = and_parts (above k (k.stamp x) q) (ascending k q) a in
      go (oldest_tells i low high q p.1) p.0 (eqb (k.item x) i) (ltb low (k.stamp x)) (ltb (k.stamp x) high) refl
    where
      go : between k i low high q ≡ below k (oldest k i low q) high → above k (k.stamp x) q ≡ true → (b c d : Bool) → ltb (k.stamp x) high ≡ d
          → ((b && (c && d)) || between k i low high q) ≡ below k (cond (b && c) (Some x) (oldest k i low q)) high
      go ih l false c d e = ih
      go ih l true false d e = ih
      go ih l true true true e = sym e
      go ih l true true false e = none_between i low high (k.stamp x) q l (ltb-false (k.stamp x) high e) ∙ sym e

  -- the youngest of the tokens behind the first, and the first itself where those have none
  youngest_behind : (i : ℕ) (x : A) (q : List A) → youngest k i (x ∷ q) ≡ option_or (youngest k i q) (cond (eqb (k.item x) i) (Some x) None)
  youngest_behind i x q = ap (find (λ y. eqb (k.item y) i)) (reverse-append (x ∷ []) q) ∙ find-append (λ y. eqb (k.item y) i) (reverse q) (x ∷ [])

  above_youngest : (s i : ℕ) (q : List A) → above k s q ≡ true → IfSome (youngest k i q) (λ y. s ≤ k.stamp y)
  above_youngest s i [] a = tt
  above_youngest s i (x ∷ q) a =
      let p = and_parts (leb s (k.stamp x)) (above k s q) a in
      rw (youngest_behind i x q) (go (youngest k i q) (above_youngest s i q p.1) (leb-true s (k.stamp x) p.0) (eqb (k.item x) i))
    where
      go : (o : Option A) → IfSome o (λ y. s ≤ k.stamp y) → s ≤ k.stamp x → (b : Bool) → IfSome (option_or o (cond b (Some x) None)) (λ y. s ≤ k.stamp y)
      go None c l true = l
      go None c l false = tt
      go (Some y) c l b = c

  pub youngest_tells : (i s : ℕ) (q : List A) → ascending k q ≡ true → reached k i s q ≡ at_least k (youngest k i q) s
  youngest_tells i s [] a = refl
  youngest_tells i s (x ∷ q) a =
      let p = and_parts (above k (k.stamp x) q) (ascending k q) a in
      rw (youngest_behind i x q) (go (youngest k i q) (youngest_tells i s q p.1) (above_youngest (k.stamp x) i q p.0) (eqb (k.item x) i))
    where
      go : (o : Option A) → reached k i s q ≡ at_least k o s → IfSome o (λ y. k.stamp x ≤ k.stamp y) → (b : Bool)
          → ((b && leb s (k.stamp x)) || reached k i s q) ≡ at_least k (option_or o (cond b (Some x) None)) s
      go None ih c true = grind (arith, nat_tests)
      go None ih c false = ih
      go (Some y) ih c true = grind (arith, nat_tests)
      go (Some y) ih c false = ih
