-- How a sound seat stays sound as its tool's transaction goes on.
use Rattle.std.proofs.Common.{◌≡◌, ℕ, ◌+◌, ◌*◌, ◌%◌, ◌<◌, ◌≤◌, Bool, true, false, cond, ◌&&◌, leb, ◌⊎◌, List, length, get_or, set, Some, sym, refl, ap, ◌∙◌, subst, inl, inr, arith}
use Rattle.std.proofs.lemmas.List.{get_or-set_same, get_or-set_other}
use Rattle.std.proofs.lemmas.Bool.{both_ways, cases_eq, leb-false}
use Rattle.queue.specs.Tokens.{has}
use Rattle.service.specs.declared.tools.Entry.{Entry}
use Rattle.service.specs.declared.tools.Phase.{Phase}
use Rattle.service.specs.declared.tools.Phase.TheVariants.{Open, Closed}
use Rattle.service.specs.declared.tools.Stand.TheVariants.{Held, Settled}
use Rattle.service.specs.Tokens.{ReadToken, WriteToken}
use Rattle.service.specs.Entries.{is_held, find, enter, stood, any_held}
use Rattle.service.specs.Service.{Seat, fresh, read_tells, write_tells, absent, entry, phased, entered, rested, unless_held}
use Rattle.service.specs.Sound.{Stamped, is_read, is_written, SeatSound}
use Rattle.service.proofs.Phases.{not_early, late}
use Rattle.service.proofs.Entries.{found, find_item, enter_cases, any_held_found, calm_enter, length_enter, length_found}

-- the seats after that of tool t is changed
abbrev pub SeatCases : List Seat → ℕ → Seat → ℕ → Type 0
SeatCases xs t x u = ((u ≡ t) × (get_or (set xs t x) u (fresh 0) ≡ x)) ⊎ ((u ≡ t → ⊥) × (get_or (set xs t x) u (fresh 0) ≡ get_or xs u (fresh 0)))

pub seat_cases : (xs : List Seat) (t : ℕ) (x : Seat) → t < length xs → (u : ℕ) → SeatCases xs t x u
seat_cases xs t x h u = go (cases_eq u t)
  where
    go : (u ≡ t) ⊎ (u ≡ t → ⊥) → SeatCases xs t x u
    go (inl e) = inl (e, rw e (get_or-set_same xs t x (fresh 0) h))
    go (inr n) = inr (n, get_or-set_other xs t u x (fresh 0) n)

-- closed under a counter
abbrev pub closed_at : Seat → ℕ → ℕ → Seat
closed_at x t n = record { phase = Closed; last = n; stamp = n * 16 + t; entries = x.entries }

module _ (rs : List ReadToken) (ws : List WriteToken) (t : ℕ) where
  -- a seat without tokens
  pub bare_seat : (x : Seat) → length x.entries ≤ 8 → (Stamped x.phase → x.stamp % 16 ≡ t) → any_held x.entries ≡ false → SeatSound rs ws t x
  bare_seat x sz st c = record {
    size = sz;
    stamp = st;
    calm = λ _. c;
    read = λ i e f h _. absurd (both_ways (any_held x.entries) c (any_held_found i e x.entries f h));
    write = λ i e f h _. absurd (both_ways (any_held x.entries) c (any_held_found i e x.entries f h));
  }

  pub rested_seat : (x : Seat) → SeatSound rs ws t (rested x)
  rested_seat x = bare_seat (rested x) (omega arith) (λ l. absurd l) refl

module _ (rs : List ReadToken) (ws : List WriteToken) (t : ℕ) (x : Seat) (k : SeatSound rs ws t x) where
  pub held_stamped : (i : ℕ) (e : Entry) → find i x.entries ≡ Some e → is_held e.stand ≡ true → Stamped x.phase
  held_stamped i e f h = late x.phase (λ q. both_ways (any_held x.entries) (k.calm q) (any_held_found i e x.entries f h))

  -- an entry is made or replaced where there is room
  pub small_enter : (i : ℕ) (d : Entry) → d.item ≡ i → (absent x i && leb 8 (length x.entries)) ≡ false → length (enter d x.entries) ≤ 8
  small_enter i d at h = go (absent x i) refl
    where
      go : (b : Bool) → absent x i ≡ b → length (enter d x.entries) ≤ 8
      go true q =
          let a = length_enter d x.entries in
          let b = leb-false 8 (length x.entries) (rw q at h) in
          omega arith
      go false q =
          let a = length_found i (entry x i) d x.entries at (found i (find i x.entries) q) in
          let b = k.size in
          omega arith

  pub touched_seat : x.phase ≡ Open → (d : Entry) → is_held d.stand ≡ false → length (enter d x.entries) ≤ 8 → SeatSound rs ws t (entered x (enter d x.entries))
  touched_seat op d nh sz = bare_seat rs ws t (entered x (enter d x.entries)) sz k.stamp (calm_enter d x.entries nh (k.calm (inr op)))

  pub closed_seat : x.phase ≡ Open → t < 16 → (n : ℕ) → SeatSound rs ws t (closed_at x t n)
  closed_seat op lt n = bare_seat rs ws t (closed_at x t n) k.size (λ _. omega arith) (k.calm (inr op))

  -- the phase alone is changed
  pub phased_seat : (p : Phase) → Stamped x.phase → Stamped p → SeatSound rs ws t (phased x p)
  phased_seat p l m = record {
    size = k.size;
    stamp = λ _. k.stamp l;
    calm = λ q. absurd (not_early p m q);
    read = k.read;
    write = k.write;
  }

  pub unless_held_seat : SeatSound rs ws t (unless_held x)
  unless_held_seat = go (any_held x.entries)
    where
      go : (b : Bool) → SeatSound rs ws t (cond b x (rested x))
      go true = k
      go false = rested_seat rs ws t x

  -- other queues, in which this seat's tokens still stand
  pub requeued_seat : (rs' : List ReadToken) (ws' : List WriteToken)
      → ((j : ℕ) → x.stamp % 16 ≡ t → has read_tells j x.stamp rs ≡ true → has read_tells j x.stamp rs' ≡ true)
      → ((j : ℕ) → x.stamp % 16 ≡ t → has write_tells j x.stamp ws ≡ true → has write_tells j x.stamp ws' ≡ true)
      → SeatSound rs' ws' t x
  requeued_seat rs' ws' r w = record {
    size = k.size;
    stamp = k.stamp;
    calm = k.calm;
    read = λ j e f h b. r j (k.stamp (held_stamped j e f h)) (k.read j e f h b);
    write = λ j e f h b. w j (k.stamp (held_stamped j e f h)) (k.write j e f h b);
  }

  -- the entry e of item i changes its stand
  module _ (i : ℕ) (e : Entry) (fd : find i x.entries ≡ Some e) (l : Stamped x.phase) (rs' : List ReadToken) (ws' : List WriteToken) where
    at : e.item ≡ i
    at = find_item i e x.entries fd

    pub certified_seat : ((j : ℕ) → has read_tells j x.stamp rs ≡ true → has read_tells j x.stamp rs' ≡ true)
        → ((j : ℕ) → has write_tells j x.stamp ws ≡ true → has write_tells j x.stamp ws' ≡ true)
        → (is_read e ≡ true → has read_tells i x.stamp rs' ≡ true)
        → (is_written e ≡ true → has write_tells i x.stamp ws' ≡ true)
        → SeatSound rs' ws' t (entered x (enter (stood e Held) x.entries))
    certified_seat r w r-new w-new = record {
      size = let a = length_found i e (stood e Held) x.entries at fd in let b = k.size in omega arith;
      stamp = k.stamp;
      calm = λ q. absurd (not_early x.phase l q);
      read = λ j f g h b. read j f h b (enter_cases i (stood e Held) at j f x.entries g);
      write = λ j f g h b. write j f h b (enter_cases i (stood e Held) at j f x.entries g);
    }
      where
        read : (j : ℕ) (f : Entry) → is_held f.stand ≡ true → is_read f ≡ true → ((j ≡ i) × (stood e Held ≡ f)) ⊎ ((j ≡ i → ⊥) × (find j x.entries ≡ Some f)) → has read_tells j x.stamp rs' ≡ true
        read j f h b (inl (p, q)) = subst (λ (z : ℕ). has read_tells z x.stamp rs' ≡ true) (sym p) (r-new (ap is_read q ∙ b))
        read j f h b (inr (p, q)) = r j (k.read j f q h b)

        write : (j : ℕ) (f : Entry) → is_held f.stand ≡ true → is_written f ≡ true → ((j ≡ i) × (stood e Held ≡ f)) ⊎ ((j ≡ i → ⊥) × (find j x.entries ≡ Some f)) → has write_tells j x.stamp ws' ≡ true
        write j f h b (inl (p, q)) = subst (λ (z : ℕ). has write_tells z x.stamp ws' ≡ true) (sym p) (w-new (ap is_written q ∙ b))
        write j f h b (inr (p, q)) = w j (k.write j f q h b)

    pub settled_seat : ((j : ℕ) → (j ≡ i → ⊥) → has read_tells j x.stamp rs ≡ true → has read_tells j x.stamp rs' ≡ true)
        → ((j : ℕ) → (j ≡ i → ⊥) → has write_tells j x.stamp ws ≡ true → has write_tells j x.stamp ws' ≡ true)
        → SeatSound rs' ws' t (entered x (enter (stood e Settled) x.entries))
    settled_seat r w = record {
      size = let a = length_found i e (stood e Settled) x.entries at fd in let b = k.size in omega arith;
      stamp = k.stamp;
      calm = λ q. absurd (not_early x.phase l q);
      read = λ j f g h b. let o = old j f h (enter_cases i (stood e Settled) at j f x.entries g) in r j o.0 (k.read j f o.1 h b);
      write = λ j f g h b. let o = old j f h (enter_cases i (stood e Settled) at j f x.entries g) in w j o.0 (k.write j f o.1 h b);
    }
      where
        old : (j : ℕ) (f : Entry) → is_held f.stand ≡ true → ((j ≡ i) × (stood e Settled ≡ f)) ⊎ ((j ≡ i → ⊥) × (find j x.entries ≡ Some f)) → (j ≡ i → ⊥) × (find j x.entries ≡ Some f)
        old j f h (inl (p, q)) = absurd (both_ways false refl (ap (λ (z : Entry). is_held z.stand) q ∙ h))
        old j f h (inr r) = r
