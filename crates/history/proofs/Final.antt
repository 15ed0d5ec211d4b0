-- From the invariants to the law.
use Rattle.std.proofs.Common.{◌≡◌, ℕ, zero, suc, ◌<◌, ◌≤◌, Bool, true, false, ◌⊎◌, List, [], ◌∷◌, length, Some, None, Option, sym, refl, ap, ◌∙◌, inl, inr, arith}
use Rattle.std.proofs.lemmas.Bool.{both_ways}
use Rattle.store.specs.declared.Version.{Version}
use Rattle.service.specs.declared.tools.Entry.{Entry}
use Rattle.service.specs.declared.tools.Phase.TheVariants.{Idle, Committed}
use Rattle.service.specs.Entries.{find}
use Rattle.service.specs.Service.{State, seat, version, largest}
use Rattle.service.proofs.Phases.{clash}
use Rattle.service.proofs.Entries.{no_find, same_some}
use Rattle.history.specs.History.{Accepted, among, settles}
use Rattle.history.specs.Transactions.{Transaction, stamp_of, ordered}
use Rattle.history.specs.Serial.{In, Cell, Cells, cells, serial, AllRight, Settled}
use Rattle.history.proofs.Order.{cell, Keeps, Leaves, Wrote, From, Strict, final, Reader, all_right}
use Rattle.history.proofs.Cards.{Card, Ghost, Source, Core, Stands, Done}
use Rattle.history.proofs.Transactions.{latest_in, in_ordered, ordered_in, strict_ordered}
use Rattle.history.proofs.Link.{Link, CardOf}

pub stamps_le : (vs : List Version) (i : ℕ) → ((version vs i).twrite ≤ largest vs) × ((version vs i).tread ≤ largest vs)
stamps_le [] i = (omega arith, omega arith)
stamps_le (v ∷ vs) zero = (omega arith, omega arith)
stamps_le (v ∷ vs) (suc i) = let h = stamps_le vs i in (omega arith, omega arith)

both_not : (s : ℕ) (h : List Accepted) (i u : ℕ) → Keeps s h i → Leaves s h i u → ⊥
both_not s h i u kp wr =
    let m : Cells = λ (_ : ℕ). cell (suc u) s in
    let q : suc u ≡ u = ap (λ (z : Cell). z.value) (sym (kp m) ∙ wr m) in
    omega arith

abbrev seen_of : Option Entry → Option ℕ
seen_of None = None
seen_of (Some e) = e.seen

seen_from : (o : Option Entry) (w : ℕ) → seen_of o ≡ Some w → (e : Entry) × (o ≡ Some e) × (e.seen ≡ Some w)
seen_from None w h = cc
seen_from (Some e) w h = (e, refl, h)

module _ (vs : List Version) (s : State) (g : Ghost) (ts : List Transaction) (k : Core vs s g) (l : Link s g ts) where
  to_from : (i w v : ℕ) → Source vs g.cards i w v → From (cells vs) (ordered ts) i w v
  to_from i w v (inl e) = inl e
  to_from i w v (inr (c, m, q, e, f, wr, cu)) =
      let r = l.down c m in
      inr (
        r.0,
        ordered_in r.0 ts r.1 r.2,
        r.3.0 ∙ q,
        λ n. r.3.1.writes i e f wr (stamp_of r.0) n ∙ ap (λ (z : ℕ). cell z (stamp_of r.0)) cu,
      )

  -- the card of a transaction that wrote the item
  abbrev Written : Transaction → ℕ → Type 0
  Written y i = (c : Card) × In c g.cards × (stamp_of y ≡ c.stamp) × (e : Entry) × (find i c.entries ≡ Some e) × (e.written ≡ true)

  card_of : (y : Transaction) → In y (ordered ts) → (c : Card) × In c g.cards × CardOf y c
  card_of y m = let r = in_ordered y ts m in l.up y r.0 r.1

  writer : (y : Transaction) (i u : ℕ) → In y (ordered ts) → Wrote y i u → Written y i
  writer y i u m wr = go (find i c.0.entries) refl
    where
      c : (c : Card) × In c g.cards × CardOf y c
      c = card_of y m

      none_w : ((e : Entry) → find i c.0.entries ≡ Some e → e.written ≡ true → ⊥) → ⊥
      none_w n = both_not (stamp_of y) y.calls i u (c.2.1.keeps i n (stamp_of y)) wr

      has : (e : Entry) → find i c.0.entries ≡ Some e → (b : Bool) → e.written ≡ b → Written y i
      has e f true q = (c.0, c.1, c.2.0, e, f, q)
      has e f false q = absurd (none_w (λ d h t. both_ways e.written q (ap (λ (z : Entry). z.written) (same_some e d (sym f ∙ h)) ∙ t)))

      go : (o : Option Entry) → find i c.0.entries ≡ o → Written y i
      go None q = absurd (none_w (λ d h t. no_find d (sym q ∙ h)))
      go (Some e) q = has e q e.written refl

  strict : Strict (ordered ts)
  strict = strict_ordered ts l.apart

  above : (i : ℕ) (x : Transaction) → In x (ordered ts) → (cells vs i).stamp < stamp_of x
  above i x m =
      let c = card_of x m in
      let a = (k.card_stamp c.0 c.1).2 in
      let b = stamps_le vs i in
      let d = c.2.0 in
      omega arith

  reader : (x : Transaction) → In x (ordered ts) → Reader (cells vs) (ordered ts) x
  reader x m = record {
    base = c.0.base;
    seen = λ i. seen_of (find i c.0.entries);
    rights = λ n h. c.2.1.rights (stamp_of x) n (λ i w e f se. h i w (ap seen_of f ∙ se));
    older = λ i w h. let e = seen_from (find i c.0.entries) w h in rw c.2.0 (k.card_older c.0 i e.0 w c.1 e.1 e.2);
    source = λ i w h. let e = seen_from (find i c.0.entries) w h in to_from i w (c.0.base i) (k.card_source c.0 i e.0 w c.1 e.1 e.2);
    gap = λ i w h y u n wr a b.
        let e = seen_from (find i c.0.entries) w h in
        let d = writer y i u n wr in
        k.gap i w (stamp_of x) (stamp_of y) e.0 d.3 (inl (c.0, c.1, sym c.2.0, e.1)) e.2 (inl (d.0, d.1, sym d.2, d.4)) d.5 a b;
  }
    where
      c : (c : Card) × In c g.cards × CardOf x c
      c = card_of x m

  pub reads_hold : AllRight (cells vs) (ordered ts)
  reads_hold = all_right (cells vs) (ordered ts) strict above reader

  -- where item i is settled, its writers are at or below twrite
  settled_le : (i : ℕ) → Settled i ts → (x : Transaction) (u : ℕ) → In x (ordered ts) → Wrote x i u → stamp_of x ≤ (version s.versions i).twrite
  settled_le i al x u m wr = go (writer x i u m wr)
    where
      stuck : (c : Card) (e : Entry) → In c g.cards → Stands (seat s c.tool) c.stamp i e → ⊥
      stuck c e n (ph, a, f, ff, h, cf) =
          let q = l.live c.tool (k.card_stamp c n).0 (λ z. clash (seat s c.tool).phase Committed Idle ph z refl) in
          both_ways (among (settles i) q.0.calls) (q.2.unsettled ph i f ff h)
          (al q.0 (latest_in c.tool ts q.0 q.1) (q.2.done ph) (q.2.tied.used i f ff))

      pick : (c : Card) (e : Entry) → In c g.cards → stamp_of x ≡ c.stamp → e.written ≡ true
          → Stands (seat s c.tool) c.stamp i e ⊎ Done (version s.versions i) c.stamp e → stamp_of x ≤ (version s.versions i).twrite
      pick c e n q w (inl st) = absurd (stuck c e n st)
      pick c e n q w (inr st) = let a = st.1 w in omega arith

      go : Written x i → stamp_of x ≤ (version s.versions i).twrite
      go (c, n, q, e, f, w) = pick c e n q w (k.cover c i e n f)

  pub item_holds : (i : ℕ) → i < length vs → Settled i ts → cells s.versions i ≡ serial (cells vs) (ordered ts) i
  item_holds i il al = sym (final (cells vs) (ordered ts) i (version s.versions i).twrite (version s.versions i).value strict above
      (to_from i (version s.versions i).twrite (version s.versions i).value (k.store i il)) (settled_le i al))
