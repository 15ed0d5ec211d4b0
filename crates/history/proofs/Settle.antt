-- A settlement takes an entry from its token to its version.
use Rattle.std.proofs.Common.{◌≡◌, ℕ, ◌<◌, ◌≤◌, max, Bool, true, false, cond, ◌&&◌, ltb, ◌⊎◌, List, length, set, is_some as option_is_some, Some, sym, refl, ap, ◌∙◌, subst, inl, inr, arith, length-set}
use Rattle.std.proofs.lemmas.List.{get_or-set_same, get_or-set_other}
use Rattle.std.proofs.lemmas.Bool.{cases_eq, and_parts, both_ways}
use Rattle.std.proofs.lemmas.Bool.Decides.{nat_tests}
use Rattle.store.specs.declared.Version.{Version}
use Rattle.service.specs.declared.calls.Call.TheVariants.{Settle}
use Rattle.service.specs.declared.tools.Entry.{Entry}
use Rattle.service.specs.declared.tools.Phase.{Phase}
use Rattle.service.specs.declared.tools.Phase.TheVariants.{Idle, Closed, Committed, Aborting}
use Rattle.service.specs.declared.tools.Stand.TheVariants.{Settled}
use Rattle.service.specs.Entries.{is_held, find, enter, stood, any_held, settled_version}
use Rattle.service.specs.Service.{Seat, State, seat, version, entry, is, entered, rested, next, next_seat}
use Rattle.service.specs.Sound.{Sound}
use Rattle.service.proofs.Phases.{clash, is_true}
use Rattle.service.proofs.Entries.{same_some, find_item, find_other, enter_cases, any_held_found}
use Rattle.service.proofs.Seats.{SeatCases, seat_cases}
use Rattle.history.proofs.Cards.{Card, Ghost, core, Source, SeatOk, Core, Stands, Done, HeldBy, SeatHolds}
use Rattle.history.proofs.Moves.{rested_ok}
use Rattle.history.proofs.Certify.{is_some}

raise_w : (b : Bool) (tw st : ℕ) → tw ≤ cond (b && ltb tw st) st tw
raise_w b tw st = grind (arith, nat_tests)

raise_r : (b : Bool) (tr st : ℕ) → tr ≤ cond b (max tr st) tr
raise_r b tr st = grind (arith, nat_tests)

reach_w : (b : Bool) (tw st : ℕ) → b ≡ true → st ≤ cond (b && ltb tw st) st tw
reach_w b tw st h = grind (arith, nat_tests)

reach_r : (b : Bool) (tr st : ℕ) → b ≡ true → st ≤ cond b (max tr st) tr
reach_r b tr st h = grind (arith, nat_tests)

-- neither of the two phases that settle
pub not_settling : (p q : Phase) → (p ≡ Committed) ⊎ (p ≡ Aborting) → is Committed q ≡ false → is Aborting q ≡ false → p ≡ q → ⊥
not_settling p q (inl h) a b e = clash p Committed q h e a
not_settling p q (inr h) a b e = clash p Aborting q h e b

module _ (vs : List Version) (s : State) (g : Ghost) (k : Core vs s g) (z : Sound s) (t : ℕ) (lt : t < 16) (i : ℕ)
    (fd : find i (seat s t).entries ≡ Some (entry (seat s t) i)) (hd : is_held (entry (seat s t) i).stand ≡ true)
    (pc : ((seat s t).phase ≡ Committed) ⊎ ((seat s t).phase ≡ Aborting)) where
  abbrev e : Entry
  e = entry (seat s t) i

  abbrev es : List Entry
  es = enter (stood e Settled) (seat s t).entries

  abbrev x : Seat
  x = next_seat s (seat s t) (Settle t i)

  abbrev s' : State
  s' = next s (seat s t) (Settle t i)

  -- the version of item i, settled
  abbrev old : Version
  old = version s.versions i

  abbrev new : Version
  new = settled_version e (seat s t).stamp old

  ok : SeatOk vs g.cards (g.base t) t (seat s t)
  ok = k.seats t lt

  at : e.item ≡ i
  at = find_item i e (seat s t).entries fd

  il : i < length vs
  il = ok.item i e fd

  -- an entry after settle is one before, but for its stand; and if it holds a token, it is another
  was : (j : ℕ) (f : Entry) → find j es ≡ Some f → (h : Entry) × (find j (seat s t).entries ≡ Some h) × (f.seen ≡ h.seen)
  was j f h = go (enter_cases i (stood e Settled) at j f (seat s t).entries h)
    where
      go : ((j ≡ i) × (stood e Settled ≡ f)) ⊎ ((j ≡ i → ⊥) × (find j (seat s t).entries ≡ Some f)) → (h : Entry) × (find j (seat s t).entries ≡ Some h) × (f.seen ≡ h.seen)
      go (inl (p, q)) = (e, rw p fd, sym (ap (λ (d : Entry). d.seen) q))
      go (inr (p, q)) = (f, q, refl)

  held_was : (j : ℕ) (f : Entry) → find j es ≡ Some f → is_held f.stand ≡ true → find j (seat s t).entries ≡ Some f
  held_was j f h d = go (enter_cases i (stood e Settled) at j f (seat s t).entries h)
    where
      go : ((j ≡ i) × (stood e Settled ≡ f)) ⊎ ((j ≡ i → ⊥) × (find j (seat s t).entries ≡ Some f)) → find j (seat s t).entries ≡ Some f
      go (inl (p, q)) = absurd (both_ways false refl (ap (λ (y : Entry). is_held y.stand) q ∙ d))
      go (inr (p, q)) = q

  ok2 : SeatOk vs g.cards (g.base t) t (entered (seat s t) es)
  ok2 = record {
    last = ok.last;
    cards = ok.cards;
    stamp = ok.stamp;
    new = ok.new;
    item = λ j f h. let r = was j f h in ok.item j r.0 r.1;
    source = λ j f w h se. let r = was j f h in ok.source j r.0 w r.1 (sym r.2 ∙ se);
    older = λ q. absurd (not_settling (seat s t).phase Closed pc refl refl q);
    card = λ q j f h d. ok.card q j f (held_was j f h d) d;
  }

  ok3 : (b : Bool) → SeatOk vs g.cards (g.base t) t (cond b (entered (seat s t) es) (rested (entered (seat s t) es)))
  ok3 true = ok2
  ok3 false = rested_ok vs g.cards (g.base t) t (entered (seat s t) es) ok2

  abbrev Cases : ℕ → Type 0
  Cases u = SeatCases s.seats t (next_seat s (seat s t) (Settle t i)) u

  cases : (u : ℕ) → Cases u
  cases u = seat_cases s.seats t x (let a = z.sixteen in omega arith) u

  not_closed : (b : Bool) → (cond b (entered (seat s t) es) (rested (entered (seat s t) es))).phase ≡ Closed → ⊥
  not_closed true q = not_settling (seat s t).phase Closed pc refl refl q
  not_closed false q = clash Idle Idle Closed refl q refl

  held_back : (n j : ℕ) (f : Entry) → HeldBy s'.seats g.cards n j f → HeldBy s.seats g.cards n j f
  held_back n j f (inl c) = inl c
  held_back n j f (inr (u, h, r)) = go (cases u)
    where
      go : Cases u → HeldBy s.seats g.cards n j f
      go (inl (p, q)) = absurd (not_closed (any_held es) (subst (λ (y : Seat). y.phase ≡ Closed) q r.0))
      go (inr (p, q)) = inr (u, h, subst (λ (y : Seat). SeatHolds y n j f) q r)

  -- the versions after it
  abbrev none_yet : Version
  none_yet = record { value = 0; twrite = 0; tread = 0 }

  abbrev After : Bool → List Version
  After b = cond b (set s.versions i new) s.versions

  at_i : version (set s.versions i new) i ≡ new
  at_i = get_or-set_same s.versions i new none_yet (let a = k.count in let b = il in omega arith)

  grow : (b : Bool) (j : ℕ) (n : ℕ) (f : Entry) → Done (version s.versions j) n f → Done (version (After b) j) n f
  grow false j n f h = h
  grow true j n f h = go (cases_eq j i)
    where
      go : (j ≡ i) ⊎ (j ≡ i → ⊥) → Done (version (set s.versions i new) j) n f
      go (inl p) = subst (λ (m : ℕ). Done (version (set s.versions i new) m) n f) (sym p)
          (subst (λ (v : Version). Done v n f) (sym at_i)
          (let h' : Done old n f = subst (λ (m : ℕ). Done (version s.versions m) n f) p h in (
            λ w se. let a = h'.0 w se in let c = raise_r (option_is_some e.seen) old.tread (seat s t).stamp in omega arith,
            λ wr. let a = h'.1 wr in let c = raise_w e.written old.twrite (seat s t).stamp in omega arith,
          )))
      go (inr ne) = subst (λ (v : Version). Done v n f) (sym (get_or-set_other s.versions i j new none_yet ne)) h

  -- its own entry is covered by the version
  mine : (seat s t).phase ≡ Committed → (f : Entry) → core e ≡ core f → Done (version s'.versions i) (seat s t).stamp f
  mine ph f cf = rw (ap (λ (p : Phase). is p Committed) ph) (subst (λ (v : Version). Done v (seat s t).stamp f) (sym at_i) (
    λ w se. reach_r (option_is_some e.seen) old.tread (seat s t).stamp (is_some e.seen w (ap (λ (y : Entry). y.seen) cf ∙ se)),
    λ wr. reach_w e.written old.twrite (seat s t).stamp (ap (λ (y : Entry). y.written) cf ∙ wr),
  ))

  pub settle_core : Core vs (next s (seat s t) (Settle t i)) g
  settle_core = record {
    count = count (is (seat s t).phase Committed);
    seats = λ u h. one u h (cases u);
    store = λ j h. store (is (seat s t).phase Committed) refl j h (cases_eq j i);
    card_stamp = k.card_stamp;
    card_source = k.card_source;
    card_older = k.card_older;
    cover = λ c j f m fc. cov c j f (k.cover c j f m fc) (cases c.tool);
    gap = λ j w n n' a b h se h' wr. k.gap j w n n' a b (held_back n j a h) se (held_back n' j b h') wr;
    apart = k.apart;
  }
    where
      count : (b : Bool) → length (After b) ≡ length vs
      count true = length-set s.versions i new ∙ k.count
      count false = k.count

      one : (u : ℕ) → u < 16 → Cases u → SeatOk vs g.cards (g.base u) u (seat s' u)
      one u h (inl (p, q)) = subst (SeatOk vs g.cards (g.base u) u) (sym q) (subst (λ (n : ℕ). SeatOk vs g.cards (g.base n) n x) (sym p) (ok3 (any_held es)))
      one u h (inr (p, q)) = subst (SeatOk vs g.cards (g.base u) u) (sym q) (k.seats u h)

      wrote : (seat s t).phase ≡ Committed → e.written ≡ true → Source vs g.cards i (seat s t).stamp e.value
      wrote ph wr = let r = ok.card ph i e fd hd in
          inr (r.0, r.1, r.2, r.3, r.4, ap (λ (y : Entry). y.written) r.5 ∙ wr, ap (λ (y : Entry). y.value) r.5)

      newer : (seat s t).phase ≡ Committed → (b : Bool) → (e.written && ltb old.twrite (seat s t).stamp) ≡ b
          → Source vs g.cards i (cond b (seat s t).stamp old.twrite) (cond b e.value old.value)
      newer ph true q = wrote ph (and_parts e.written (ltb old.twrite (seat s t).stamp) q).0
      newer ph false q = k.store i il

      store : (b : Bool) → is (seat s t).phase Committed ≡ b → (j : ℕ) → j < length vs → (j ≡ i) ⊎ (j ≡ i → ⊥)
          → Source vs g.cards j (version (After b) j).twrite (version (After b) j).value
      store false q j h d = k.store j h
      store true q j h (inl p) = subst (λ (n : ℕ). Source vs g.cards n (version (After true) n).twrite (version (After true) n).value) (sym p)
          (subst (λ (v : Version). Source vs g.cards i v.twrite v.value) (sym at_i)
          (newer (is_true (seat s t).phase Committed q) (e.written && ltb old.twrite (seat s t).stamp) refl))
      store true q j h (inr n) = subst (λ (v : Version). Source vs g.cards j v.twrite v.value)
          (sym (get_or-set_other s.versions i j new none_yet n)) (k.store j h)

      still : (j : ℕ) (f : Entry) (n : ℕ) → (j ≡ i → ⊥) → Stands (seat s t) n j f → Stands x n j f
      still j f n ne (ph, a, h, fh, d, c) =
          let fh' : find j es ≡ Some h = find_other i (stood e Settled) at j (seat s t).entries ne ∙ fh in
          rw (any_held_found j h es fh' d) (ph, a, h, fh', d, c)

      stand : (c : Card) (j : ℕ) (f : Entry) → Stands (seat s t) c.stamp j f → seat s' c.tool ≡ x → (j ≡ i) ⊎ (j ≡ i → ⊥)
          → Stands (seat s' c.tool) c.stamp j f ⊎ Done (version s'.versions j) c.stamp f
      stand c j f y q (inr ne) = inl (subst (λ (a : Seat). Stands a c.stamp j f) (sym q) (still j f c.stamp ne y))
      stand c j f (ph, a, h, fh, d, cf) q (inl ji) =
          let eh : e ≡ h = same_some e h (sym fd ∙ subst (λ (n : ℕ). find n (seat s t).entries ≡ Some h) ji fh) in
          inr (subst (λ (n : ℕ). Done (version s'.versions n) c.stamp f) (sym ji)
          (subst (λ (n : ℕ). Done (version s'.versions i) n f) a (mine ph f (ap core eh ∙ cf))))

      cov : (c : Card) (j : ℕ) (f : Entry) → Stands (seat s c.tool) c.stamp j f ⊎ Done (version s.versions j) c.stamp f → Cases c.tool
          → Stands (seat s' c.tool) c.stamp j f ⊎ Done (version s'.versions j) c.stamp f
      cov c j f (inr y) r = inr (grow (is (seat s t).phase Committed) j c.stamp f y)
      cov c j f (inl y) (inr (p, q)) = inl (subst (λ (a : Seat). Stands a c.stamp j f) (sym q) y)
      cov c j f (inl y) (inl (p, q)) = stand c j f (subst (λ (n : ℕ). Stands (seat s n) c.stamp j f) p y) q (cases_eq j i)
