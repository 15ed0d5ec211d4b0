-- A commit deals a card.
use Rattle.std.proofs.Common.{◌≡◌, ℕ, ◌+◌, ◌*◌, ◌%◌, ◌<◌, ◌≤◌, Bool, true, false, cond, ◌⊎◌, List, [], ◌∷◌, set, Some, sym, refl, ap, ◌∙◌, subst, inl, inr, arith}
use Rattle.store.specs.declared.Version.{Version}
use Rattle.service.specs.declared.calls.Call.TheVariants.{Commit}
use Rattle.service.specs.declared.tools.Entry.{Entry}
use Rattle.service.specs.declared.tools.Phase.TheVariants.{Idle, Closed, Committed}
use Rattle.service.specs.Entries.{find, all_held}
use Rattle.service.specs.Service.{Seat, State, seat, version, largest, phased, rested, is_empty, next, next_seat}
use Rattle.service.specs.Sound.{Sound}
use Rattle.service.proofs.Phases.{clash, stamped_at}
use Rattle.service.proofs.Entries.{no_find, all_held_found}
use Rattle.service.proofs.Seats.{SeatCases, seat_cases}
use Rattle.history.specs.Serial.{In}
use Rattle.history.proofs.Cards.{Card, Ghost, Source, SeatOk, Core, Stands, Done, seat_at, HeldBy, SeatHolds}
use Rattle.history.proofs.Moves.{rested_ok}

source_more : (vs : List Version) (C : List Card) (d : Card) (i w v : ℕ) → Source vs C i w v → Source vs (d ∷ C) i w v
source_more vs C d i w v (inl e) = inl e
source_more vs C d i w v (inr (c, m, q, e, f, wr, cu)) = inr (c, inr m, q, e, f, wr, cu)

-- another tool's seat
ok_more : (vs : List Version) (C : List Card) (d : Card) (b : ℕ → ℕ) (u : ℕ) (y : Seat) → (d.tool ≡ u → ⊥) → SeatOk vs C b u y → SeatOk vs (d ∷ C) b u y
ok_more vs C d b u y n ok = record {
  last = ok.last;
  cards = λ c m q. ok.cards c (old c m q) q;
  stamp = ok.stamp;
  new = λ h c m q. ok.new h c (old c m q) q;
  item = ok.item;
  source = λ i e w f se. source_more vs C d i w (b i) (ok.source i e w f se);
  older = ok.older;
  card = λ q i e f h. let r = ok.card q i e f h in (r.0, inr r.1, r.2, r.3, r.4, r.5);
}
  where
    old : (c : Card) → In c (d ∷ C) → c.tool ≡ u → In c C
    old c (inl e) q = absurd (n (sym (ap (λ (z : Card). z.tool) e) ∙ q))
    old c (inr m) q = m

module _ (vs : List Version) (s : State) (g : Ghost) (k : Core vs s g) (z : Sound s) (t : ℕ) (lt : t < 16) (cl : (seat s t).phase ≡ Closed) (ah : all_held (seat s t).entries ≡ true) where
  abbrev pub dealt : Card
  dealt = record { tool = t; stamp = (seat s t).stamp; entries = (seat s t).entries; base = g.base t }

  ok : SeatOk vs g.cards (g.base t) t (seat s t)
  ok = k.seats t lt

  st : ((seat s t).stamp % 16 ≡ t) × (largest vs < (seat s t).stamp) × ((seat s t).stamp ≤ (seat s t).last * 16 + t)
  st = let l = stamped_at (seat s t).phase Closed cl tt in let a = ok.stamp l in ((z.seats t lt).stamp l, a.0, a.1)

  ok2 : SeatOk vs (dealt ∷ g.cards) (g.base t) t (phased (seat s t) Committed)
  ok2 = record {
    last = ok.last;
    cards = cards;
    stamp = λ _. (st.1, st.2);
    new = λ q. absurd (clash Committed Committed Closed refl q refl);
    item = ok.item;
    source = λ i e w f se. source_more vs g.cards dealt i w (g.base t i) (ok.source i e w f se);
    older = λ q. absurd (clash Committed Committed Closed refl q refl);
    card = λ _ i e f h. (dealt, inl refl, refl, e, f, refl);
  }
    where
      cards : (c : Card) → In c (dealt ∷ g.cards) → c.tool ≡ t → c.stamp ≤ (seat s t).last * 16 + t
      cards c (inl e) q = let a : c.stamp ≡ (seat s t).stamp = ap (λ (d : Card). d.stamp) e in let b = st.2 in omega arith
      cards c (inr m) q = ok.cards c m q

  abbrev x : Seat
  x = next_seat s (seat s t) (Commit t)

  ok3 : (b : Bool) → SeatOk vs (dealt ∷ g.cards) (g.base t) t (cond b (rested (seat s t)) (phased (seat s t) Committed))
  ok3 true = rested_ok vs (dealt ∷ g.cards) (g.base t) t (phased (seat s t) Committed) ok2
  ok3 false = ok2

  not_closed : (b : Bool) → (cond b (rested (seat s t)) (phased (seat s t) Committed)).phase ≡ Closed → ⊥
  not_closed true q = clash Idle Idle Closed refl q refl
  not_closed false q = clash Committed Committed Closed refl q refl

  abbrev Cases : ℕ → Type 0
  Cases u = SeatCases s.seats t (next_seat s (seat s t) (Commit t)) u

  cases : (u : ℕ) → Cases u
  cases u = seat_cases s.seats t x (let a = z.sixteen in omega arith) u

  held_back : (n i : ℕ) (e : Entry) → HeldBy (set s.seats t x) (dealt ∷ g.cards) n i e → HeldBy s.seats g.cards n i e
  held_back n i e (inl (c, inl q, a, f)) =
      let f' : find i (seat s t).entries ≡ Some e = subst (λ (d : Card). find i d.entries ≡ Some e) q f in
      inr (t, lt, (cl, sym (ap (λ (d : Card). d.stamp) q) ∙ a, f', all_held_found i e (seat s t).entries ah f'))
  held_back n i e (inl (c, inr m, a, f)) = inl (c, m, a, f)
  held_back n i e (inr (u, h, r)) = go (cases u)
    where
      go : Cases u → HeldBy s.seats g.cards n i e
      go (inl (p, q)) = absurd (not_closed (is_empty (seat s t).entries) (subst (λ (y : Seat). y.phase ≡ Closed) q r.0))
      go (inr (p, q)) = inr (u, h, subst (λ (y : Seat). SeatHolds y n i e) q r)

  stands : (i : ℕ) (e : Entry) (es : List Entry) → find i es ≡ Some e → cond (is_empty es) (rested (seat s t)) (phased (seat s t) Committed) ≡ phased (seat s t) Committed
  stands i e [] f = absurd (no_find e f)
  stands i e (y ∷ es) f = refl

  pub commit_core : Core vs (next s (seat s t) (Commit t)) (record { cards = dealt ∷ g.cards; base = g.base })
  commit_core = record {
    count = k.count;
    seats = λ u h. one u h (cases u);
    store = λ i h. source_more vs g.cards dealt i (version s.versions i).twrite (version s.versions i).value (k.store i h);
    card_stamp = card_stamp;
    card_source = card_source;
    card_older = card_older;
    cover = cover;
    gap = λ i w n n' e f h se h' wr. k.gap i w n n' e f (held_back n i e h) se (held_back n' i f h') wr;
    apart = (λ d m q. let a = k.card_stamp d m in let b = st.0 in ok.new cl d m (omega arith) q, k.apart);
  }
    where
      one : (u : ℕ) → u < 16 → Cases u → SeatOk vs (dealt ∷ g.cards) (g.base u) u (seat_at (set s.seats t x) u)
      one u h (inl (p, q)) = subst (SeatOk vs (dealt ∷ g.cards) (g.base u) u) (sym q)
          (subst (λ (n : ℕ). SeatOk vs (dealt ∷ g.cards) (g.base n) n x) (sym p) (ok3 (is_empty (seat s t).entries)))
      one u h (inr (p, q)) = subst (SeatOk vs (dealt ∷ g.cards) (g.base u) u) (sym q) (ok_more vs g.cards dealt (g.base u) u (seat s u) (λ a. p (sym a)) (k.seats u h))

      card_stamp : (c : Card) → In c (dealt ∷ g.cards) → (c.tool < 16) × (c.stamp % 16 ≡ c.tool) × (largest vs < c.stamp)
      card_stamp c (inl e) = subst (λ (d : Card). (d.tool < 16) × (d.stamp % 16 ≡ d.tool) × (largest vs < d.stamp)) (sym e) (lt, st.0, st.1)
      card_stamp c (inr m) = k.card_stamp c m

      card_source : (c : Card) (i : ℕ) (e : Entry) (w : ℕ) → In c (dealt ∷ g.cards) → find i c.entries ≡ Some e → e.seen ≡ Some w → Source vs (dealt ∷ g.cards) i w (c.base i)
      card_source c i e w (inl q) f se = source_more vs g.cards dealt i w (c.base i)
          (subst (λ (d : Card). Source vs g.cards i w (d.base i)) (sym q) (ok.source i e w (subst (λ (d : Card). find i d.entries ≡ Some e) q f) se))
      card_source c i e w (inr m) f se = source_more vs g.cards dealt i w (c.base i) (k.card_source c i e w m f se)

      card_older : (c : Card) (i : ℕ) (e : Entry) (w : ℕ) → In c (dealt ∷ g.cards) → find i c.entries ≡ Some e → e.seen ≡ Some w → w < c.stamp
      card_older c i e w (inl q) f se =
          let f' : find i (seat s t).entries ≡ Some e = subst (λ (d : Card). find i d.entries ≡ Some e) q f in
          subst (λ (d : Card). w < d.stamp) (sym q) (ok.older cl i e w f' (all_held_found i e (seat s t).entries ah f') se)
      card_older c i e w (inr m) f se = k.card_older c i e w m f se

      cov : (c : Card) (i : ℕ) (e : Entry) → Stands (seat s c.tool) c.stamp i e ⊎ Done (version s.versions i) c.stamp e → Cases c.tool
          → Stands (seat_at (set s.seats t x) c.tool) c.stamp i e ⊎ Done (version s.versions i) c.stamp e
      cov c i e (inr y) r = inr y
      cov c i e (inl y) (inl (p, q)) = absurd (clash (seat s t).phase Closed Committed cl (subst (λ (n : ℕ). (seat s n).phase ≡ Committed) p y.0) refl)
      cov c i e (inl y) (inr (p, q)) = inl (subst (λ (a : Seat). Stands a c.stamp i e) (sym q) y)

      mine : (i : ℕ) (e : Entry) → find i (seat s t).entries ≡ Some e → Cases t → Stands (seat_at (set s.seats t x) t) (seat s t).stamp i e
      mine i e f (inl (p, q)) = subst (λ (a : Seat). Stands a (seat s t).stamp i e) (sym (q ∙ stands i e (seat s t).entries f))
          (refl, refl, e, f, all_held_found i e (seat s t).entries ah f, refl)
      mine i e f (inr (p, q)) = absurd (p refl)

      cover : (c : Card) (i : ℕ) (e : Entry) → In c (dealt ∷ g.cards) → find i c.entries ≡ Some e
          → Stands (seat_at (set s.seats t x) c.tool) c.stamp i e ⊎ Done (version s.versions i) c.stamp e
      cover c i e (inl q) f = inl (subst (λ (d : Card). Stands (seat_at (set s.seats t x) d.tool) d.stamp i e) (sym q)
          (mine i e (subst (λ (d : Card). find i d.entries ≡ Some e) q f) (cases t)))
      cover c i e (inr m) f = cov c i e (k.cover c i e m f) (cases c.tool)
