-- An entry by its place, and by its item.
use Rattle.std.proofs.Common.{◌≡◌, ℕ, suc, ◌+◌, ◌-◌, ◌<◌, ◌≤◌, Bool, true, false, cond, eqb, List, [], ◌∷◌, ◌++◌, length, get_or, set, Some, None, Option, sym, refl, ap, ◌∙◌, arith}
use Rattle.std.proofs.lemmas.Bool.{eqb-true}
use Rattle.std.specs.List.{refill}
use Rattle.service.proofs.Lists.{rewritten}
use Rattle.service.specs.declared.tools.Entry.{Entry}
use Rattle.service.specs.declared.tools.Stand.{Stand}
use Rattle.service.specs.Entries.{find, enter, blank, or_blank, stood, index_from}

-- the entry of item i is found at place k
pub record Found (i k : ℕ) (es : List Entry) : Type 0 where
  pub within : k < length es
  pub found : find i es ≡ Some (get_or es k (blank 0))
  pub item : (get_or es k (blank 0)).item ≡ i
  pub enters : (e : Entry) → e.item ≡ i → enter e es ≡ set es k e

there : (n i : ℕ) (es : List Entry) (k : ℕ) → index_from n i es ≡ Some k → (n ≤ k) × Found i (k - n) es
there n i [] k h = let z : ◌≡◌ {A = ℕ} 0 1 = cc in absurd (omega arith)
there n i (x ∷ es) k h = go (there (n + 1) i es k) (eqb i x.item) refl h
  where
    go : (index_from (n + 1) i es ≡ Some k → (n + 1 ≤ k) × Found i (k - (n + 1)) es) → (b : Bool) → eqb i x.item ≡ b
        → cond b (Some n) (index_from (n + 1) i es) ≡ Some k → (n ≤ k) × Found i (k - n) (x ∷ es)
    go ih true e q =
        let p : n ≡ k = cc in
        let z : k - n ≡ 0 = omega arith in
        let j : i ≡ x.item = eqb-true i x.item e in (
          omega arith,
          rw z (record {
            within = omega arith;
            found = rw e;
            item = sym j;
            enters = λ f r. rw (r, e);
          }),
        )
    go ih false e q =
        let (le, f) = ih q in
        let z : k - n ≡ suc (k - (n + 1)) = omega arith in (
          omega arith,
          rw z (record {
            within = let a = f.within in omega arith;
            found = rw e f.found;
            item = f.item;
            enters = λ g r. let d : eqb g.item x.item ≡ false = rw r e in rw d (ap (λ (l : List Entry). x ∷ l) (f.enters g r));
          }),
        )

pub index_some : (i : ℕ) (es : List Entry) (k : ℕ) → index_from 0 i es ≡ Some k → Found i k es
index_some i es k h = let z : k - 0 ≡ k = omega arith in rw z at (there 0 i es k h).1

pub index_none : (n i : ℕ) (es : List Entry) → index_from n i es ≡ None → (find i es ≡ None) × ((e : Entry) → e.item ≡ i → enter e es ≡ es ++ e ∷ [])
index_none n i [] h = (refl, λ e r. refl)
index_none n i (x ∷ es) h = go (index_none (n + 1) i es) (eqb i x.item) refl h
  where
    go : (index_from (n + 1) i es ≡ None → (find i es ≡ None) × ((e : Entry) → e.item ≡ i → enter e es ≡ es ++ e ∷ [])) → (b : Bool) → eqb i x.item ≡ b
        → cond b (Some n) (index_from (n + 1) i es) ≡ None → (find i (x ∷ es) ≡ None) × ((e : Entry) → e.item ≡ i → enter e (x ∷ es) ≡ (x ∷ es) ++ e ∷ [])
    go ih true e q = let z : ◌≡◌ {A = ℕ} 0 1 = cc in absurd (omega arith)
    go ih false e q = let (a, b) = ih q in (rw e a, λ g r. let d : eqb g.item x.item ≡ false = rw r e in rw d (ap (λ (l : List Entry). x ∷ l) (b g r)))

-- the entry of item i stands at place k
module _ (es : List Entry) (i k : ℕ) (at : index_from 0 i es ≡ Some k) where
  pub found_at : find i es ≡ Some (get_or es k (blank 0))
  found_at = (index_some i es k at).found

  pub item_at : (get_or es k (blank 0)).item ≡ i
  item_at = (index_some i es k at).item

  pub enter_at : (e : Entry) → e.item ≡ i → set es k e ≡ enter e es
  enter_at e h = sym ((index_some i es k at).enters e h)

  pub stand_at : (a : Stand) → set es k (stood (get_or es k (blank 0)) a) ≡ enter (stood (or_blank i (find i es)) a) es
  stand_at a = enter_at (stood (get_or es k (blank 0)) a) item_at ∙ ap (λ (o : Option Entry). enter (stood (or_blank i o) a) es) (sym found_at)

  -- as a write through another name of the entries leaves it
  pub stood_at : (seen : List Entry) → seen ≡ es → (a : Stand) → refill (length es) es (set seen k (stood (get_or seen k (blank 0)) a)) ≡ enter (stood (or_blank i (find i es)) a) es
  stood_at seen e a = rewritten es seen k (stood (get_or seen k (blank 0)) a) e ∙ ap (λ (l : List Entry). set es k (stood (get_or l k (blank 0)) a)) e ∙ stand_at a
