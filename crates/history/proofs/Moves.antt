-- The calls that change one seat and neither the store nor the queues.
use Rattle.std.proofs.Common.{◌≡◌, ℕ, ◌+◌, ◌*◌, ◌/◌, ◌<◌, ◌≤◌, Bool, true, false, cond, eqb, ◌⊎◌, List, length, Some, None, Option, refl, ap, ◌∙◌, subst, inl, inr, arith}
use Rattle.std.proofs.lemmas.Bool.{ne_eqb, eq-eqb, both_ways}
use Rattle.store.specs.declared.Version.{Version}
use Rattle.service.specs.declared.calls.Call.TheVariants.{Begin, Write, Abort}
use Rattle.service.specs.declared.tools.Entry.{Entry}
use Rattle.service.specs.declared.tools.Phase.{Phase}
use Rattle.service.specs.declared.tools.Phase.TheVariants.{Idle, Open, Closed, Failed, Committed, Aborting}
use Rattle.service.specs.Entries.{is_held, find, enter, or_blank, read_from, written_to, any_held}
use Rattle.service.specs.Service.{Seat, State, seat, version, entry, is, largest, phased, entered, rested, next, next_seat, reseat}
use Rattle.service.specs.Sound.{Stamped, Sound}
use Rattle.service.proofs.Phases.{clash, stamped_at}
use Rattle.service.proofs.Entries.{no_find, entry_item, enter_cases, any_held_found, calm_entry, calm_enter}
use Rattle.service.proofs.Seats.{closed_at}
use Rattle.history.specs.Serial.{In}
use Rattle.history.proofs.Cards.{Card, Ghost, Source, SeatOk, Core, seat_core, same_gap}

-- a value first read is noted
abbrev pub rebase : (ℕ → ℕ → ℕ) → ℕ → ℕ → ℕ → ℕ → ℕ → ℕ
rebase b t i v u = cond (eqb u t) (λ (j : ℕ). cond (eqb j i) v (b u j)) (b u)

pub rebase_other : (b : ℕ → ℕ → ℕ) (t i v u : ℕ) → (u ≡ t → ⊥) → rebase b t i v u ≡ b u
rebase_other b t i v u n = rw (ne_eqb u t n)

module _ (vs : List Version) (C : List Card) (b : ℕ → ℕ) (t : ℕ) (x : Seat) where
  -- a seat without tokens
  pub bare_ok : largest vs / 16 ≤ x.last
      → ((c : Card) → In c C → c.tool ≡ t → c.stamp ≤ x.last * 16 + t)
      → (Stamped x.phase → (largest vs < x.stamp) × (x.stamp ≤ x.last * 16 + t))
      → (x.phase ≡ Closed → (c : Card) → In c C → c.tool ≡ t → c.stamp ≡ x.stamp → ⊥)
      → ((i : ℕ) (e : Entry) → find i x.entries ≡ Some e → i < length vs)
      → ((i : ℕ) (e : Entry) (w : ℕ) → find i x.entries ≡ Some e → e.seen ≡ Some w → Source vs C i w (b i))
      → any_held x.entries ≡ false
      → SeatOk vs C b t x
  bare_ok la ca st ne it so calm = record {
    last = la;
    cards = ca;
    stamp = st;
    new = ne;
    item = it;
    source = so;
    older = λ _ i e w f h _. absurd (bare i e f h);
    card = λ _ i e f h. absurd (bare i e f h);
  }
    where
      bare : (i : ℕ) (e : Entry) → find i x.entries ≡ Some e → is_held e.stand ≡ true → ⊥
      bare i e f h = both_ways (any_held x.entries) calm (any_held_found i e x.entries f h)

  -- the phase alone is changed, and will not commit
  pub phased_ok : (p : Phase) → SeatOk vs C b t x → Stamped x.phase → is p Closed ≡ false → is p Committed ≡ false → SeatOk vs C b t (phased x p)
  phased_ok p ok l nc nd = record {
    last = ok.last;
    cards = ok.cards;
    stamp = λ _. ok.stamp l;
    new = λ q. absurd (clash p p Closed refl q nc);
    item = ok.item;
    source = ok.source;
    older = λ q. absurd (clash p p Closed refl q nc);
    card = λ q. absurd (clash p p Committed refl q nd);
  }

  pub rested_ok : SeatOk vs C b t x → SeatOk vs C b t (rested x)
  rested_ok ok = record {
    last = ok.last;
    cards = ok.cards;
    stamp = λ h. absurd h;
    new = λ q. absurd (clash Idle Idle Closed refl q refl);
    item = λ i e f. absurd (no_find e f);
    source = λ i e w f. absurd (no_find e f);
    older = λ q i e w f. absurd (no_find e f);
    card = λ q i e f. absurd (no_find e f);
  }

module _ (vs : List Version) (s : State) (g : Ghost) (k : Core vs s g) (z : Sound s) (t : ℕ) (lt : t < 16) where
  ok : SeatOk vs g.cards (g.base t) t (seat s t)
  ok = k.seats t lt

  not_committed : (p : Phase) → (seat s t).phase ≡ p → is p Committed ≡ false → (seat s t).phase ≡ Committed → ⊥
  not_committed p h n q = clash (seat s t).phase p Committed h q n

  -- the seat alone is changed, and holds nothing under a close
  put_core : (y : Seat) (b : ℕ → ℕ → ℕ) → ((u : ℕ) → (u ≡ t → ⊥) → b u ≡ g.base u) → SeatOk vs g.cards (b t) t y → ((seat s t).phase ≡ Committed → ⊥)
      → (y.phase ≡ Closed → (i : ℕ) (e : Entry) → find i y.entries ≡ Some e → is_held e.stand ≡ true → ⊥)
      → Core vs (reseat s t y) (record { cards = g.cards; base = b })
  put_core y b same o nc cl = seat_core vs s g k z t lt y b same o nc (same_gap vs s g k z t lt y cl)

  pub begin_core : (seat s t).phase ≡ Idle → Core vs (next s (seat s t) (Begin t)) g
  begin_core h = put_core y g.base (λ _ _. refl)
      (bare_ok vs g.cards (g.base t) t y ok.last ok.cards (λ l. absurd l) (λ q. absurd (clash Open Open Closed refl q refl))
      (λ i e f. absurd (no_find e f)) (λ i e w f. absurd (no_find e f)) refl)
      (not_committed Idle h refl) (λ q. absurd (clash Open Open Closed refl q refl))
    where
      y : Seat
      y = next_seat s (seat s t) (Begin t)

  pub fail_core : (seat s t).phase ≡ Closed → Core vs (reseat s t (phased (seat s t) Failed)) g
  fail_core h = put_core (phased (seat s t) Failed) g.base (λ _ _. refl)
      (phased_ok vs g.cards (g.base t) t (seat s t) Failed ok (stamped_at (seat s t).phase Closed h tt) refl refl)
      (not_committed Closed h refl) (λ q. absurd (clash Failed Failed Closed refl q refl))

  pub abort_core : (p : Phase) → (seat s t).phase ≡ p → is p Committed ≡ false → (any_held (seat s t).entries ≡ true → Stamped p) → Core vs (next s (seat s t) (Abort t)) g
  abort_core p h n l = go (any_held (seat s t).entries) refl
    where
      go : (a : Bool) → any_held (seat s t).entries ≡ a → Core vs (reseat s t (cond a (phased (seat s t) Aborting) (rested (phased (seat s t) Aborting)))) g
      go true q = put_core (phased (seat s t) Aborting) g.base (λ _ _. refl)
          (phased_ok vs g.cards (g.base t) t (seat s t) Aborting ok (stamped_at (seat s t).phase p h (l q)) refl refl)
          (not_committed p h n) (λ c. absurd (clash Aborting Aborting Closed refl c refl))
      go false q = put_core (rested (phased (seat s t) Aborting)) g.base (λ _ _. refl)
          (rested_ok vs g.cards (g.base t) t (seat s t) ok) (not_committed p h n) (λ c. absurd (clash Idle Idle Closed refl c refl))

  module _ (op : (seat s t).phase ≡ Open) where
    calm : any_held (seat s t).entries ≡ false
    calm = (z.seats t lt).calm (inr op)

    -- a close under any counter above the last
    pub close_core : (n : ℕ) → (seat s t).last < n → Core vs (reseat s t (closed_at (seat s t) t n)) g
    close_core n more = put_core (closed_at (seat s t) t n) g.base (λ _ _. refl)
        (bare_ok vs g.cards (g.base t) t (closed_at (seat s t) t n)
        (let a = ok.last in omega arith)
        (λ c m e. let a = ok.cards c m e in omega arith)
        (λ _. ((let a = ok.last in omega arith), omega arith))
        (λ _ c m e q. let a = ok.cards c m e in omega arith)
        ok.item ok.source calm)
        (not_committed Open op refl)
        (λ _ i e f d. both_ways (any_held (seat s t).entries) calm (any_held_found i e (seat s t).entries f d))

    -- an entry of item i is made or replaced
    enter_core : (i : ℕ) → i < length vs → (e : Entry) → e.item ≡ i → is_held e.stand ≡ false → (b : ℕ → ℕ → ℕ)
        → ((w : ℕ) → e.seen ≡ Some w → Source vs g.cards i w (b t i)) → ((j : ℕ) → (j ≡ i → ⊥) → b t j ≡ g.base t j) → ((u : ℕ) → (u ≡ t → ⊥) → b u ≡ g.base u)
        → Core vs (reseat s t (entered (seat s t) (enter e (seat s t).entries))) (record { cards = g.cards; base = b })
    enter_core i il e at nh b src same others = put_core y b others
        (bare_ok vs g.cards (b t) t y ok.last ok.cards ok.stamp ok.new
        (λ j f h. item j f (enter_cases i e at j f (seat s t).entries h)) (λ j f w h se. source j f w se (enter_cases i e at j f (seat s t).entries h))
        (calm_enter e (seat s t).entries nh calm))
        (not_committed Open op refl) (λ c. absurd (clash (seat s t).phase Open Closed op c refl))
      where
        y : Seat
        y = entered (seat s t) (enter e (seat s t).entries)

        item : (j : ℕ) (f : Entry) → ((j ≡ i) × (e ≡ f)) ⊎ ((j ≡ i → ⊥) × (find j (seat s t).entries ≡ Some f)) → j < length vs
        item j f (inl (p, q)) = rw p il
        item j f (inr (p, q)) = ok.item j f q

        source : (j : ℕ) (f : Entry) (w : ℕ) → f.seen ≡ Some w → ((j ≡ i) × (e ≡ f)) ⊎ ((j ≡ i → ⊥) × (find j (seat s t).entries ≡ Some f)) → Source vs g.cards j w (b t j)
        source j f w se (inl (p, q)) = rw p (src w (ap (λ (d : Entry). d.seen) q ∙ se))
        source j f w se (inr (p, q)) = rw (same j p) (ok.source j f w q se)

    pub write_core : (i v : ℕ) → i < length vs → Core vs (next s (seat s t) (Write t i v)) g
    write_core i v il = enter_core i il (written_to (entry (seat s t) i) v) (entry_item i (seat s t).entries) (calm_entry i (seat s t).entries calm) g.base
        (go (find i (seat s t).entries) refl) (λ _ _. refl) (λ _ _. refl)
      where
        go : (o : Option Entry) → find i (seat s t).entries ≡ o → (w : ℕ) → (or_blank i o).seen ≡ Some w → Source vs g.cards i w (g.base t i)
        go None f w se = cc
        go (Some e) f w se = ok.source i e w f se

    abbrev pub seen_now : ℕ → Ghost
    seen_now i = record { cards = g.cards; base = rebase g.base t i (version s.versions i).value }

    pub read_new : (i : ℕ) → i < length vs → Core vs (reseat s t (entered (seat s t) (enter (read_from i (version s.versions i)) (seat s t).entries))) (seen_now i)
    read_new i il = enter_core i il (read_from i (version s.versions i)) refl refl (rebase g.base t i (version s.versions i).value)
        (λ w se. rw (eq-eqb t t refl, eq-eqb i i refl) (subst (λ (n : ℕ). Source vs g.cards i n (version s.versions i).value) (inj w se) (k.store i il)))
        (λ j n. rw (eq-eqb t t refl, ne_eqb j i n)) (λ u n. rebase_other g.base t i (version s.versions i).value u n)
      where
        inj : (w : ℕ) → Some (version s.versions i).twrite ≡ Some w → (version s.versions i).twrite ≡ w
        inj w h = cc

    -- a read of an entry changes nothing
    pub read_old : Core vs (reseat s t (entered (seat s t) (seat s t).entries)) g
    read_old = put_core (seat s t) g.base (λ _ _. refl) ok (not_committed Open op refl) (λ c. absurd (clash (seat s t).phase Open Closed op c refl))
