-- The entries of a transaction say what its calls did.
use Rattle.std.proofs.Common.{◌≡◌, ℕ, Bool, true, false, cond, ◌||◌, eqb, ◌⊎◌, List, [], ◌∷◌, Some, None, Option, sym, refl, ap, ◌∙◌, subst, inl, inr}
use Rattle.std.proofs.lemmas.Bool.{cases_eq, both_ways, eq-eqb, ne_eqb, or_left, or_right}
use Rattle.store.specs.declared.Version.{Version}
use Rattle.service.specs.declared.calls.Call.{Call}
use Rattle.service.specs.declared.calls.Call.TheVariants.{Read, Write}
use Rattle.service.specs.declared.calls.Answer.{Answer}
use Rattle.service.specs.declared.calls.Answer.TheVariants.{Value}
use Rattle.service.specs.declared.tools.Entry.{Entry}
use Rattle.service.specs.declared.tools.Stand.{Stand}
use Rattle.service.specs.Entries.{find, enter, or_blank, read_from, written_to, stood}
use Rattle.service.proofs.Entries.{no_find, same_some, find_item, entry_item, find_same, find_other, enter_cases}
use Rattle.history.specs.History.{Accepted, Kind, Begins, Commits, Other, Reads, Settles, Writes, kind, uses, among}
use Rattle.history.specs.Serial.{Cell, Cells, act, acts, Right, Rights}
use Rattle.history.proofs.Order.{cell, Leaves, Keeps}
use Rattle.history.proofs.Cards.{core}

-- the written entries are what the calls leave; the others keep the value first read; and the reads are right over any
-- values that agree on the items seen
pub record Tied (h : List Accepted) (es : List Entry) (b : ℕ → ℕ) : Type 0 where
  pub keeps : (i : ℕ) → ((e : Entry) → find i es ≡ Some e → e.written ≡ true → ⊥) → (s : ℕ) → Keeps s h i
  pub writes : (i : ℕ) (e : Entry) → find i es ≡ Some e → e.written ≡ true → (s : ℕ) → Leaves s h i e.value
  pub plain : (i : ℕ) (e : Entry) → find i es ≡ Some e → e.written ≡ false → ((w : ℕ) × (e.seen ≡ Some w)) × (e.value ≡ b i)
  pub rights : (s : ℕ) (n : Cells) → ((i w : ℕ) (e : Entry) → find i es ≡ Some e → e.seen ≡ Some w → (n i).value ≡ b i) → Rights s n h
  pub used : (i : ℕ) (e : Entry) → find i es ≡ Some e → among (uses i) h ≡ true

pub tied_none : (b : ℕ → ℕ) → Tied [] [] b
tied_none b = record {
  keeps = λ i n s m. refl;
  writes = λ i e f. absurd (no_find e f);
  plain = λ i e f. absurd (no_find e f);
  rights = λ s n h. tt;
  used = λ i e f. absurd (no_find e f);
}

-- the kinds that touch no value
abbrev pub Silent : Kind → Type 0
Silent Begins = Unit
Silent Commits = Unit
Silent Other = Unit
Silent (Reads i) = ⊥
Silent (Settles i) = Unit
Silent (Writes i v) = ⊥

silent_act : (k : Kind) → Silent k → (s : ℕ) (m : Cells) (j : ℕ) → act s k m j ≡ m j
silent_act Begins q s m j = refl
silent_act Commits q s m j = refl
silent_act Other q s m j = refl
silent_act (Reads i) q s m j = absurd q
silent_act (Settles i) q s m j = refl
silent_act (Writes i v) q s m j = absurd q

silent_right : (k : Kind) → Silent k → (m : Cells) (a : Answer) → Right m a k
silent_right Begins q m a = tt
silent_right Commits q m a = tt
silent_right Other q m a = tt
silent_right (Reads i) q m a = absurd q
silent_right (Settles i) q m a = tt
silent_right (Writes i v) q m a = absurd q

abbrev pub Neutral : Accepted → Type 0
Neutral e = (h : List Accepted) (es : List Entry) (b : ℕ → ℕ) → Tied h es b → Tied (e ∷ h) es b

pub silent_neutral : (c : Call) (a : Answer) → Silent (kind c) → Neutral (c, a)
silent_neutral c a q h es b r = record {
  keeps = λ i n s m. silent_act (kind c) q s (acts s h m) i ∙ r.keeps i n s m;
  writes = λ i e f w s m. silent_act (kind c) q s (acts s h m) i ∙ r.writes i e f w s m;
  plain = r.plain;
  rights = λ s n f. (silent_right (kind c) q (acts s h n) a, r.rights s n f);
  used = λ i e f. or_right (uses i (kind c)) (among (uses i) h) (r.used i e f);
}

-- a token comes or goes
module _ (h : List Accepted) (es : List Entry) (b : ℕ → ℕ) (r : Tied h es b) (i : ℕ) (e : Entry) (fd : find i es ≡ Some e) (a : Stand) where
  at : e.item ≡ i
  at = find_item i e es fd

  back : (j : ℕ) (f : Entry) → find j (enter (stood e a) es) ≡ Some f → (d : Entry) × (find j es ≡ Some d) × (core d ≡ core f)
  back j f h = go (enter_cases i (stood e a) at j f es h)
    where
      go : ((j ≡ i) × (stood e a ≡ f)) ⊎ ((j ≡ i → ⊥) × (find j es ≡ Some f)) → (d : Entry) × (find j es ≡ Some d) × (core d ≡ core f)
      go (inl (p, q)) = (e, rw p fd, ap core q)
      go (inr (p, q)) = (f, q, refl)

  forth : (j : ℕ) (d : Entry) → find j es ≡ Some d → (f : Entry) × (find j (enter (stood e a) es) ≡ Some f) × (core d ≡ core f)
  forth j d h = go (cases_eq j i)
    where
      go : (j ≡ i) ⊎ (j ≡ i → ⊥) → (f : Entry) × (find j (enter (stood e a) es) ≡ Some f) × (core d ≡ core f)
      go (inl p) =
          let q : d ≡ e = same_some d e (sym (subst (λ (n : ℕ). find n es ≡ Some d) p h) ∙ fd) in
          (stood e a, rw p (find_same i (stood e a) at es), ap core q)
      go (inr n) = (d, find_other i (stood e a) at j es n ∙ h, refl)

  pub tied_stand : Tied h (enter (stood e a) es) b
  tied_stand = record {
    keeps = λ j n. r.keeps j (λ d q wr. let f = forth j d q in n f.0 f.1 (sym (ap (λ (z : Entry). z.written) f.2) ∙ wr));
    writes = λ j f q wr s m. let d = back j f q in
        r.writes j d.0 d.1 (ap (λ (z : Entry). z.written) d.2 ∙ wr) s m ∙ ap (λ (z : Entry). cell z.value s) d.2;
    plain = λ j f q wr. let d = back j f q in let p = r.plain j d.0 d.1 (ap (λ (z : Entry). z.written) d.2 ∙ wr) in
        ((p.0.0, sym (ap (λ (z : Entry). z.seen) d.2) ∙ p.0.1), sym (ap (λ (z : Entry). z.value) d.2) ∙ p.1);
    rights = λ s n c. r.rights s n (λ j w d q se. let f = forth j d q in c j w f.0 f.1 (sym (ap (λ (z : Entry). z.seen) f.2) ∙ se));
    used = λ j f q. let d = back j f q in r.used j d.0 d.1;
  }

-- values that agree on the items seen
abbrev Agree : List Entry → (ℕ → ℕ) → Cells → Type 0
Agree es b n = (i w : ℕ) (e : Entry) → find i es ≡ Some e → e.seen ≡ Some w → (n i).value ≡ b i

-- a value read again
value_of : (h : List Accepted) (es : List Entry) (b : ℕ → ℕ) → Tied h es b → (i : ℕ) (e : Entry) → find i es ≡ Some e → (s : ℕ) (n : Cells)
    → Agree es b n → e.value ≡ (acts s h n i).value
value_of h es b r i e fd s n c = go e.written refl
  where
    go : (a : Bool) → e.written ≡ a → e.value ≡ (acts s h n i).value
    go true q = sym (ap (λ (z : Cell). z.value) (r.writes i e fd q s n))
    go false q =
        let p = r.plain i e fd q in
        let unwritten : (f : Entry) → find i es ≡ Some f → f.written ≡ true → ⊥ = λ f g wr. both_ways e.written q (ap (λ (z : Entry). z.written) (same_some e f (sym fd ∙ g)) ∙ wr) in
        p.1 ∙ (sym (c i p.0.0 e fd p.0.1) ∙ sym (ap (λ (z : Cell). z.value) (r.keeps i unwritten s n)))

pub tied_read : (h : List Accepted) (es : List Entry) (b : ℕ → ℕ) → Tied h es b → (t i : ℕ) (e : Entry) → find i es ≡ Some e → Tied ((Read t i, Value e.value) ∷ h) es b
tied_read h es b r t i e fd = record {
  keeps = r.keeps;
  writes = r.writes;
  plain = r.plain;
  rights = λ s n c. (value_of h es b r i e fd s n c, r.rights s n c);
  used = λ j f q. or_right (eqb j i) (among (uses j) h) (r.used j f q);
}

-- an item read for the first time
module _ (h : List Accepted) (es : List Entry) (b b' : ℕ → ℕ) (r : Tied h es b) (t i : ℕ) (v : Version) (none : find i es ≡ None)
    (bi : b' i ≡ v.value) (bo : (j : ℕ) → (j ≡ i → ⊥) → b' j ≡ b j) where
  abbrev new : Entry
  new = read_from i v

  abbrev Split : ℕ → Entry → Type 0
  Split j f = ((j ≡ i) × (read_from i v ≡ f)) ⊎ ((j ≡ i → ⊥) × (find j es ≡ Some f))

  split : (j : ℕ) (f : Entry) → find j (enter new es) ≡ Some f → Split j f
  split j f h = enter_cases i new refl j f es h

  not_i : (j : ℕ) (d : Entry) → find j es ≡ Some d → j ≡ i → ⊥
  not_i j d q p = no_find d (sym none ∙ subst (λ (z : ℕ). find z es ≡ Some d) p q)

  pub tied_new : Tied ((Read t i, Value v.value) ∷ h) (enter (read_from i v) es) b'
  tied_new = record {
    keeps = λ j n. r.keeps j (λ d q wr. n d (find_other i new refl j es (not_i j d q) ∙ q) wr);
    writes = λ j f q wr s m. wrote j f wr s m (split j f q);
    plain = λ j f q wr. plain j f wr (split j f q);
    rights = λ s n c. (now s n c, r.rights s n (λ j u d q se. c j u d (find_other i new refl j es (not_i j d q) ∙ q) se ∙ bo j (not_i j d q)));
    used = λ j f q. used j f (split j f q);
  }
    where
      wrote : (j : ℕ) (f : Entry) → f.written ≡ true → (s : ℕ) (m : Cells) → Split j f → acts s h m j ≡ cell f.value s
      wrote j f wr s m (inl (p, q)) = absurd (both_ways f.written (sym (ap (λ (z : Entry). z.written) q)) wr)
      wrote j f wr s m (inr (p, q)) = r.writes j f q wr s m

      plain : (j : ℕ) (f : Entry) → f.written ≡ false → Split j f → ((u : ℕ) × (f.seen ≡ Some u)) × (f.value ≡ b' j)
      plain j f wr (inl (p, q)) = ((v.twrite, sym (ap (λ (z : Entry). z.seen) q)), sym (ap (λ (z : Entry). z.value) q) ∙ (sym bi ∙ ap b' (sym p)))
      plain j f wr (inr (p, q)) = let y = r.plain j f q wr in (y.0, y.1 ∙ sym (bo j p))

      now : (s : ℕ) (n : Cells) → Agree (enter new es) b' n → v.value ≡ (acts s h n i).value
      now s n c = sym bi ∙ (sym (c i v.twrite new (find_same i new refl es) refl) ∙ sym (ap (λ (z : Cell). z.value) (r.keeps i (λ f q wr. not_i i f q refl) s n)))

      used : (j : ℕ) (f : Entry) → Split j f → (eqb j i || among (uses j) h) ≡ true
      used j f (inl (p, q)) = or_left (eqb j i) (among (uses j) h) (eq-eqb j i p)
      used j f (inr (p, q)) = or_right (eqb j i) (among (uses j) h) (r.used j f q)

-- an item written
module _ (h : List Accepted) (es : List Entry) (b : ℕ → ℕ) (r : Tied h es b) (t i v : ℕ) (a : Answer) where
  abbrev wrote_to : Entry
  wrote_to = written_to (or_blank i (find i es)) v

  abbrev WSplit : ℕ → Entry → Type 0
  WSplit j f = ((j ≡ i) × (written_to (or_blank i (find i es)) v ≡ f)) ⊎ ((j ≡ i → ⊥) × (find j es ≡ Some f))

  at_w : (written_to (or_blank i (find i es)) v).item ≡ i
  at_w = entry_item i es

  wsplit : (j : ℕ) (f : Entry) → find j (enter wrote_to es) ≡ Some f → WSplit j f
  wsplit j f h = enter_cases i wrote_to at_w j f es h

  pub tied_write : Tied ((Write t i v, a) ∷ h) (enter (written_to (or_blank i (find i es)) v) es) b
  tied_write = record {
    keeps = λ j n s m. keeps j n s m (cases_eq j i);
    writes = λ j f q wr s m. wrote j f wr s m (wsplit j f q);
    plain = λ j f q wr. plain j f wr (wsplit j f q);
    rights = λ s n c. (tt, r.rights s n (λ j u d q se. agree s n c j u d q se (cases_eq j i)));
    used = λ j f q. used j f (wsplit j f q);
  }
    where
      here : (j : ℕ) → j ≡ i → find j (enter wrote_to es) ≡ Some wrote_to
      here j p = subst (λ (z : ℕ). find z (enter wrote_to es) ≡ Some wrote_to) (sym p) (find_same i wrote_to at_w es)

      keeps : (j : ℕ) → ((f : Entry) → find j (enter wrote_to es) ≡ Some f → f.written ≡ true → ⊥) → (s : ℕ) (m : Cells) → (j ≡ i) ⊎ (j ≡ i → ⊥)
          → cond (eqb j i) (cell v s) (acts s h m j) ≡ m j
      keeps j n s m (inl p) = absurd (n wrote_to (here j p) refl)
      keeps j n s m (inr p) = rw (ne_eqb j i p) (r.keeps j (λ d q wr. n d (find_other i wrote_to at_w j es p ∙ q) wr) s m)

      wrote : (j : ℕ) (f : Entry) → f.written ≡ true → (s : ℕ) (m : Cells) → WSplit j f → cond (eqb j i) (cell v s) (acts s h m j) ≡ cell f.value s
      wrote j f wr s m (inl (p, q)) = rw (eq-eqb j i p) (ap (λ (z : Entry). cell z.value s) q)
      wrote j f wr s m (inr (p, q)) = rw (ne_eqb j i p) (r.writes j f q wr s m)

      plain : (j : ℕ) (f : Entry) → f.written ≡ false → WSplit j f → ((u : ℕ) × (f.seen ≡ Some u)) × (f.value ≡ b j)
      plain j f wr (inl (p, q)) = absurd (both_ways f.written wr (sym (ap (λ (z : Entry). z.written) q)))
      plain j f wr (inr (p, q)) = r.plain j f q wr

      agree : (s : ℕ) (n : Cells) → Agree (enter wrote_to es) b n → (j u : ℕ) (d : Entry) → find j es ≡ Some d → d.seen ≡ Some u → (j ≡ i) ⊎ (j ≡ i → ⊥) → (n j).value ≡ b j
      agree s n c j u d q se (inl p) = c j u wrote_to (here j p) (ap (λ (z : Option Entry). (or_blank i z).seen) (subst (λ (z : ℕ). find z es ≡ Some d) p q) ∙ se)
      agree s n c j u d q se (inr p) = c j u d (find_other i wrote_to at_w j es p ∙ q) se

      used : (j : ℕ) (f : Entry) → WSplit j f → (eqb j i || among (uses j) h) ≡ true
      used j f (inl (p, q)) = or_left (eqb j i) (among (uses j) h) (eq-eqb j i p)
      used j f (inr (p, q)) = or_right (eqb j i) (among (uses j) h) (r.used j f q)
