-- A certified entry leaves no write between a reader and the version that it read.
use Rattle.std.proofs.Common.{◌≡◌, ℕ, ◌<◌, ◌≤◌, Bool, true, false, not, ◌&&◌, eqb, leb, ◌⊎◌, List, length, set, is_some as option_is_some, Some, None, Option, unwrap_or, sym, refl, ap, ◌∙◌, subst, inl, inr, arith}
use Rattle.std.proofs.lemmas.Bool.{eqb-true, leb-false, not-false}
use Rattle.store.specs.declared.Version.{Version}
use Rattle.queue.specs.Tokens.{has, between}
use Rattle.service.specs.declared.calls.Call.TheVariants.{Certify}
use Rattle.service.specs.declared.tools.Entry.{Entry}
use Rattle.service.specs.declared.tools.Phase.TheVariants.{Closed, Committed}
use Rattle.service.specs.declared.tools.Stand.TheVariants.{Held}
use Rattle.service.specs.Entries.{is_held, find, stood}
use Rattle.service.specs.Service.{Seat, State, read_tells, write_tells, seat, version, entry, certifies, next, next_seat}
use Rattle.service.specs.Sound.{Sound}
use Rattle.service.proofs.Phases.{clash}
use Rattle.service.proofs.Entries.{find_item, enter_cases}
use Rattle.service.proofs.Rules.{Clear}
use Rattle.service.proofs.Seats.{SeatCases, seat_cases}
use Rattle.history.proofs.Questions.{none_between, all_below}
use Rattle.history.proofs.Cards.{Ghost, Source, SeatOk, Core, Stands, Done, HeldBy, SeatHolds, seat_core}

-- what the first three tests say of a read at w
passed : (o : Option ℕ) (w tw st : ℕ) (b : Bool) → o ≡ Some w → (option_is_some o && not (eqb tw (unwrap_or o 0))) ≡ false → (option_is_some o && leb st tw) ≡ false → (option_is_some o && b) ≡ false
    → (tw ≡ w) × (tw < st) × (b ≡ false)
passed None w tw st b h r9 r10 r11 = cc
passed (Some v) w tw st b h r9 r10 r11 =
    let q : v ≡ w = cc in
    (eqb-true tw v (not-false (eqb tw v) r9) ∙ q, leb-false st tw r10, r11)

pub is_some : (o : Option ℕ) (w : ℕ) → o ≡ Some w → option_is_some o ≡ true
is_some None w h = cc
is_some (Some v) w h = refl

module _ (vs : List Version) (s : State) (g : Ghost) (k : Core vs s g) (z : Sound s) (t : ℕ) (lt : t < 16) (i : ℕ)
    (fd : find i (seat s t).entries ≡ Some (entry (seat s t) i)) (cl : (seat s t).phase ≡ Closed) (r : Clear (certifies s (seat s t) i)) where
  abbrev e : Entry
  e = entry (seat s t) i

  abbrev x : Seat
  x = next_seat s (seat s t) (Certify t i)

  abbrev tw : ℕ
  tw = (version s.versions i).twrite

  abbrev st : ℕ
  st = (seat s t).stamp

  ok : SeatOk vs g.cards (g.base t) t (seat s t)
  ok = k.seats t lt

  -- an entry after certify is the one that was honoured, or one before
  abbrev Was : ℕ → Entry → Type 0
  Was j f = ((j ≡ i) × (stood e Held ≡ f)) ⊎ ((j ≡ i → ⊥) × (find j (seat s t).entries ≡ Some f))

  was : (j : ℕ) (f : Entry) → find j x.entries ≡ Some f → Was j f
  was j f h = enter_cases i (stood e Held) (find_item i e (seat s t).entries fd) j f (seat s t).entries h

  seen_of_stood : (f : Entry) (w : ℕ) → stood e Held ≡ f → f.seen ≡ Some w → e.seen ≡ Some w
  seen_of_stood f w q h = ap (λ (d : Entry). d.seen) q ∙ h

  read_facts : (w : ℕ) → e.seen ≡ Some w → (tw ≡ w) × (tw < st) × (between write_tells i tw st s.writes ≡ false)
  read_facts w h = passed e.seen w tw st (between write_tells i tw st s.writes) h r.0 r.1.0 r.1.1.0

  okx : SeatOk vs g.cards (g.base t) t x
  okx = record {
    last = ok.last;
    cards = ok.cards;
    stamp = ok.stamp;
    new = ok.new;
    item = λ j f h. item j f (was j f h);
    source = λ j f w h se. source j f w se (was j f h);
    older = λ q j f w h d se. older q j f w d se (was j f h);
    card = λ q. absurd (clash (seat s t).phase Closed Committed cl q refl);
  }
    where
      item : (j : ℕ) (f : Entry) → Was j f → j < length vs
      item j f (inl (p, q)) = rw p (ok.item i e fd)
      item j f (inr (p, q)) = ok.item j f q

      source : (j : ℕ) (f : Entry) (w : ℕ) → f.seen ≡ Some w → Was j f → Source vs g.cards j w (g.base t j)
      source j f w se (inl (p, q)) = rw p (ok.source i e w fd (seen_of_stood f w q se))
      source j f w se (inr (p, q)) = ok.source j f w q se

      older : (seat s t).phase ≡ Closed → (j : ℕ) (f : Entry) (w : ℕ) → is_held f.stand ≡ true → f.seen ≡ Some w → Was j f → w < (seat s t).stamp
      older c j f w d se (inl (p, q)) = let a = read_facts w (seen_of_stood f w q se) in omega arith
      older c j f w d se (inr (p, q)) = ok.older c j f w q d se

  -- what is held now was held, or is the certified entry
  abbrev Now : ℕ → ℕ → Entry → Type 0
  Now n j f = (n ≡ st) × (j ≡ i) × (stood e Held ≡ f)

  held_back : (n j : ℕ) (f : Entry) → HeldBy (set s.seats t x) g.cards n j f → HeldBy s.seats g.cards n j f ⊎ Now n j f
  held_back n j f (inl c) = inl (inl c)
  held_back n j f (inr (u, h, y)) = go (seat_cases s.seats t x (let a = z.sixteen in omega arith) u)
    where
      mine : SeatHolds x n j f → Was j f → HeldBy s.seats g.cards n j f ⊎ Now n j f
      mine y (inl (p, q)) = inr (sym y.1, p, q)
      mine y (inr (p, q)) = inl (inr (t, lt, (y.0, y.1, q, y.3)))

      go : SeatCases s.seats t x u → HeldBy s.seats g.cards n j f ⊎ Now n j f
      go (inl (p, q)) = let y' : SeatHolds x n j f = subst (λ (a : Seat). SeatHolds a n j f) q y in mine y' (was j f y'.2)
      go (inr (p, q)) = inl (inr (u, h, subst (λ (a : Seat). SeatHolds a n j f) q y))

  -- each held write has its token or is covered by twrite, and each held read by tread
  covered_w : (n : ℕ) (f : Entry) → HeldBy s.seats g.cards n i f → f.written ≡ true → (has write_tells i n s.writes ≡ true) ⊎ (n ≤ tw)
  covered_w n f (inr (u, h, (a, b, c, d))) wr = inl (subst (λ (m : ℕ). has write_tells i m s.writes ≡ true) b ((z.seats u h).write i f c d wr))
  covered_w n f (inl (c, m, q, fc)) wr = go (k.cover c i f m fc)
    where
      go : Stands (seat s c.tool) c.stamp i f ⊎ Done (version s.versions i) c.stamp f → (has write_tells i n s.writes ≡ true) ⊎ (n ≤ tw)
      go (inl (a, b, h, fh, d, ch)) = inl (subst (λ (m : ℕ). has write_tells i m s.writes ≡ true) (b ∙ q)
          ((z.seats c.tool (k.card_stamp c m).0).write i h fh d (ap (λ (y : Entry). y.written) ch ∙ wr)))
      go (inr y) = inr (let a = y.1 wr in omega arith)

  covered_r : (n w : ℕ) (f : Entry) → HeldBy s.seats g.cards n i f → f.seen ≡ Some w → (has read_tells i n s.reads ≡ true) ⊎ (n ≤ (version s.versions i).tread)
  covered_r n w f (inr (u, h, (a, b, c, d))) se = inl (subst (λ (m : ℕ). has read_tells i m s.reads ≡ true) b ((z.seats u h).read i f c d (is_some f.seen w se)))
  covered_r n w f (inl (c, m, q, fc)) se = go (k.cover c i f m fc)
    where
      go : Stands (seat s c.tool) c.stamp i f ⊎ Done (version s.versions i) c.stamp f → (has read_tells i n s.reads ≡ true) ⊎ (n ≤ (version s.versions i).tread)
      go (inl (a, b, h, fh, d, ch)) = inl (subst (λ (m : ℕ). has read_tells i m s.reads ≡ true) (b ∙ q)
          ((z.seats c.tool (k.card_stamp c m).0).read i h fh d (is_some h.seen w (ap (λ (y : Entry). y.seen) ch ∙ se))))
      go (inr y) = inr (let a = y.0 w se in omega arith)

  -- no held write lies below the certified read and above what it read
  new_read : (w n : ℕ) (f : Entry) → e.seen ≡ Some w → HeldBy s.seats g.cards n i f → f.written ≡ true → w < n → n < st → ⊥
  new_read w n f se h wr a b = go (covered_w n f h wr)
    where
      fs : (tw ≡ w) × (tw < st) × (between write_tells i tw st s.writes ≡ false)
      fs = read_facts w se

      go : (has write_tells i n s.writes ≡ true) ⊎ (n ≤ tw) → ⊥
      go (inl y) = none_between write_tells i tw st n s.writes fs.2 y (let q = fs.0 in omega arith) b
      go (inr y) = let q = fs.0 in omega arith

  -- no held reader lies above the certified write
  new_write : (w n : ℕ) (f : Entry) → e.written ≡ true → HeldBy s.seats g.cards n i f → f.seen ≡ Some w → st < n → ⊥
  new_write w n f wr h se b = go (covered_r n w f h se)
    where
      go : (has read_tells i n s.reads ≡ true) ⊎ (n ≤ (version s.versions i).tread) → ⊥
      go (inl y) = let a = all_below read_tells i st n s.reads (rw wr at r.1.1.1.1.0) y in omega arith
      go (inr y) = let a = leb-false st (version s.versions i).tread (rw wr at r.1.1.1.0) in omega arith

  gap : (j w n n' : ℕ) (a b : Entry) → HeldBy s.seats g.cards n j a ⊎ Now n j a → a.seen ≡ Some w → HeldBy s.seats g.cards n' j b ⊎ Now n' j b → b.written ≡ true
      → w < n' → n' < n → ⊥
  gap j w n n' a b (inl h) se (inl h') wr l m = k.gap j w n n' a b h se h' wr l m
  gap j w n n' a b (inr (p, q, y)) se (inl h') wr l m =
      new_read w n' b (seen_of_stood a w y se) (subst (λ (v : ℕ). HeldBy s.seats g.cards n' v b) q h') wr l (omega arith)
  gap j w n n' a b (inl h) se (inr (p, q, y)) wr l m =
      new_write w n a (ap (λ (v : Entry). v.written) y ∙ wr) (subst (λ (v : ℕ). HeldBy s.seats g.cards n v a) q h) se (omega arith)
  gap j w n n' a b (inr (p, q, y)) se (inr (p', q', y')) wr l m = omega arith

  pub certify_core : Core vs (next s (seat s t) (Certify t i)) g
  certify_core = seat_core vs s g k z t lt x g.base (λ _ _. refl) okx
      (λ q. clash (seat s t).phase Closed Committed cl q refl)
      (λ j w n n' a b h se h' wr. gap j w n n' a b (held_back n j a h) se (held_back n' j b h') wr)
