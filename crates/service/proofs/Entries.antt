-- The entries of a transaction: what finding one tells, and what entering one changes.
use Rattle.std.proofs.Common.{◌≡◌, ℕ, suc, ◌≤◌, Bool, true, false, cond, not, ◌||◌, eqb, ◌⊎◌, List, [], ◌∷◌, length, is_some, Some, None, Option, sym, refl, ap, ◌∙◌, subst, inl, inr, arith}
use Rattle.std.proofs.lemmas.Bool.{eqb-true, eq-eqb, ne_eqb, or_parts, and_parts, or_right, or_left, cases_eq, both_ways}
use Rattle.service.specs.declared.tools.Entry.{Entry}
use Rattle.service.specs.Entries.{is_held, find, enter, or_blank, any_held, all_held}

pub no_find : (e : Entry) → ◌≡◌ {A = Option Entry} None (Some e) → ⊥
no_find e h = let z : ◌≡◌ {A = ℕ} 0 1 = cc in omega arith

pub same_some : (a b : Entry) → ◌≡◌ {A = Option Entry} (Some a) (Some b) → a ≡ b
same_some a b h = cc

pub found : (i : ℕ) (o : Option Entry) → not (is_some o) ≡ false → o ≡ Some (or_blank i o)
found i None h = absurd (both_ways true h refl)
found i (Some e) h = refl

pub missing : (o : Option Entry) → not (is_some o) ≡ true → o ≡ None
missing None h = refl
missing (Some e) h = absurd (both_ways false refl h)

pub find_item : (i : ℕ) (e : Entry) (es : List Entry) → find i es ≡ Some e → e.item ≡ i
find_item i e [] h = absurd (no_find e h)
find_item i e (x ∷ es) h = go (find_item i e es) (eqb i x.item) refl h
  where
    go : (find i es ≡ Some e → e.item ≡ i) → (b : Bool) → eqb i x.item ≡ b → cond b (Some x) (find i es) ≡ Some e → e.item ≡ i
    go ih true q h = sym (eqb-true i x.item q ∙ ap (λ (z : Entry). z.item) (same_some x e h))
    go ih false q h = ih h

pub entry_item : (i : ℕ) (es : List Entry) → (or_blank i (find i es)).item ≡ i
entry_item i es = go (find i es) refl
  where
    go : (o : Option Entry) → find i es ≡ o → (or_blank i o).item ≡ i
    go None h = refl
    go (Some e) h = find_item i e es h

-- an entry for item i is entered
module _ (i : ℕ) (e : Entry) (at : e.item ≡ i) where
  pub find_same : (es : List Entry) → find i (enter e es) ≡ Some e
  find_same [] = rw (eq-eqb i e.item (sym at))
  find_same (x ∷ es) = go (find_same es) (eqb e.item x.item) refl
    where
      go : find i (enter e es) ≡ Some e → (b : Bool) → eqb e.item x.item ≡ b → find i (cond b (e ∷ es) (x ∷ enter e es)) ≡ Some e
      go ih true h = rw (eq-eqb i e.item (sym at))
      go ih false h = rw (subst (λ (n : ℕ). eqb n x.item ≡ false) at h) ih

  pub find_other : (j : ℕ) (es : List Entry) → (j ≡ i → ⊥) → find j (enter e es) ≡ find j es
  find_other j [] ne = rw (ne_eqb j e.item (λ q. ne (q ∙ at)))
  find_other j (x ∷ es) ne = go (find_other j es ne) (eqb e.item x.item) refl
    where
      go : find j (enter e es) ≡ find j es → (b : Bool) → eqb e.item x.item ≡ b → find j (cond b (e ∷ es) (x ∷ enter e es)) ≡ find j (x ∷ es)
      go ih true h =
          let k : e.item ≡ x.item = eqb-true e.item x.item h in
          rw (ne_eqb j e.item (λ q. ne (q ∙ at)), ne_eqb j x.item (λ q. ne (q ∙ (sym k ∙ at))))
      go ih false h = rw ih

  pub same_entry : (f : Entry) (es : List Entry) → find i (enter e es) ≡ Some f → e ≡ f
  same_entry f es h = same_some e f (sym (find_same es) ∙ h)

  -- what is found after it is that entry, or was found before
  pub enter_cases : (j : ℕ) (f : Entry) (es : List Entry) → find j (enter e es) ≡ Some f → ((j ≡ i) × (e ≡ f)) ⊎ ((j ≡ i → ⊥) × (find j es ≡ Some f))
  enter_cases j f es h = go (cases_eq j i)
    where
      go : (j ≡ i) ⊎ (j ≡ i → ⊥) → ((j ≡ i) × (e ≡ f)) ⊎ ((j ≡ i → ⊥) × (find j es ≡ Some f))
      go (inl p) = inl (p, same_entry f es (subst (λ (z : ℕ). find z (enter e es) ≡ Some f) p h))
      go (inr n) = inr (n, sym (find_other j es n) ∙ h)

pub any_held_found : (i : ℕ) (e : Entry) (es : List Entry) → find i es ≡ Some e → is_held e.stand ≡ true → any_held es ≡ true
any_held_found i e [] h k = absurd (no_find e h)
any_held_found i e (x ∷ es) h k = go (any_held_found i e es) (eqb i x.item) h
  where
    go : (find i es ≡ Some e → is_held e.stand ≡ true → any_held es ≡ true) → (b : Bool) → cond b (Some x) (find i es) ≡ Some e → (is_held x.stand || any_held es) ≡ true
    go ih true q = or_left (is_held x.stand) (any_held es) (ap (λ (z : Entry). is_held z.stand) (same_some x e q) ∙ k)
    go ih false q = or_right (is_held x.stand) (any_held es) (ih q k)

-- where no entry holds a token, that of item i does not
pub calm_entry : (i : ℕ) (es : List Entry) → any_held es ≡ false → is_held (or_blank i (find i es)).stand ≡ false
calm_entry i es c = go (find i es) refl
  where
    bare : (e : Entry) → find i es ≡ Some e → (b : Bool) → is_held e.stand ≡ b → b ≡ false
    bare e h true q = absurd (both_ways (any_held es) c (any_held_found i e es h q))
    bare e h false q = refl

    go : (o : Option Entry) → find i es ≡ o → is_held (or_blank i o).stand ≡ false
    go None h = refl
    go (Some e) h = bare e h (is_held e.stand) refl

pub all_held_found : (i : ℕ) (e : Entry) (es : List Entry) → all_held es ≡ true → find i es ≡ Some e → is_held e.stand ≡ true
all_held_found i e [] a h = absurd (no_find e h)
all_held_found i e (x ∷ es) a h = go (all_held_found i e es) (eqb i x.item) h
  where
    both : (is_held x.stand ≡ true) × (all_held es ≡ true)
    both = and_parts (is_held x.stand) (all_held es) a

    go : (all_held es ≡ true → find i es ≡ Some e → is_held e.stand ≡ true) → (b : Bool) → cond b (Some x) (find i es) ≡ Some e → is_held e.stand ≡ true
    go ih true q = ap (λ (z : Entry). is_held z.stand) (sym (same_some x e q)) ∙ both.0
    go ih false q = ih both.1 q

pub calm_enter : (e : Entry) (es : List Entry) → is_held e.stand ≡ false → any_held es ≡ false → any_held (enter e es) ≡ false
calm_enter e [] h c = rw h
calm_enter e (x ∷ es) h c = go (calm_enter e es h) (eqb e.item x.item)
  where
    q : (is_held x.stand ≡ false) × (any_held es ≡ false)
    q = or_parts (is_held x.stand) (any_held es) c

    go : (any_held es ≡ false → any_held (enter e es) ≡ false) → (b : Bool) → any_held (cond b (e ∷ es) (x ∷ enter e es)) ≡ false
    go ih true = rw h q.1
    go ih false = rw q.0 (ih q.1)

pub length_enter : (e : Entry) (es : List Entry) → length (enter e es) ≤ suc (length es)
length_enter e [] = omega arith
length_enter e (x ∷ es) = go (length_enter e es) (eqb e.item x.item)
  where
    go : length (enter e es) ≤ suc (length es) → (b : Bool) → length (cond b (e ∷ es) (x ∷ enter e es)) ≤ suc (suc (length es))
    go ih true = omega arith
    go ih false = omega arith

pub length_found : (i : ℕ) (e d : Entry) (es : List Entry) → d.item ≡ i → find i es ≡ Some e → length (enter d es) ≡ length es
length_found i e d [] at h = absurd (no_find e h)
length_found i e d (x ∷ es) at h = go (length_found i e d es at) (eqb d.item x.item) (subst (λ (n : ℕ). cond (eqb n x.item) (Some x) (find i es) ≡ Some e) (sym at) h)
  where
    go : (find i es ≡ Some e → length (enter d es) ≡ length es) → (b : Bool) → cond b (Some x) (find i es) ≡ Some e → length (cond b (d ∷ es) (x ∷ enter d es)) ≡ suc (length es)
    go ih true q = refl
    go ih false q = ap suc (ih q)
