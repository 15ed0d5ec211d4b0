-- The history's transactions against the seats and the cards.
use Rattle.std.proofs.Common.{◌≡◌, ℕ, ◌<◌, true, false, ◌⊎◌, List, [], ◌∷◌, get_or, set, Some, sym, refl, ap, ◌∙◌, subst, inl, inr, arith}
use Rattle.std.proofs.lemmas.Bool.{both_ways, eq-eqb, ne_eqb}
use Rattle.service.specs.declared.tools.Entry.{Entry}
use Rattle.service.specs.declared.tools.Phase.TheVariants.{Idle, Open, Closed, Failed, Committed}
use Rattle.service.specs.Entries.{is_held, find}
use Rattle.service.specs.Service.{Seat, State, seat, fresh, tool_of, phased, reseat}
use Rattle.service.specs.Sound.{Stamped, Sound}
use Rattle.service.proofs.Phases.{clash, stamped_at}
use Rattle.service.proofs.Seats.{SeatCases, seat_cases}
use Rattle.history.specs.History.{Accepted, among, settles}
use Rattle.history.specs.Transactions.{Transaction, join, is_committed, stamp_of}
use Rattle.history.specs.Serial.{In}
use Rattle.history.proofs.Cards.{Card, Ghost, seat_at}
use Rattle.history.proofs.Tied.{Tied, Neutral, tied_none}
use Rattle.history.proofs.Transactions.{latest, extended, latest_in, in_join, in_new, in_old, latest_join, latest_other, Apart, apart_join}

-- a seat and its tool's latest transaction
pub record Linked (x : Seat) (y : Transaction) (b : ℕ → ℕ) : Type 0 where
  pub tied : Tied y.calls x.entries b
  pub stamp : Stamped x.phase → stamp_of y ≡ x.stamp
  pub fresh : x.phase ≡ Open → is_committed y ≡ false
  pub quiet : (x.phase ≡ Open) ⊎ (x.phase ≡ Closed) → (i : ℕ) → among (settles i) y.calls ≡ false
  pub unsettled : x.phase ≡ Committed → (i : ℕ) (e : Entry) → find i x.entries ≡ Some e → is_held e.stand ≡ true → among (settles i) y.calls ≡ false
  pub done : x.phase ≡ Committed → is_committed y ≡ true

abbrev pub CardOf : Transaction → Card → Type 0
CardOf y c = (stamp_of y ≡ c.stamp) × Tied y.calls c.entries c.base

abbrev pub Current : Seat → ℕ → List Transaction → (ℕ → ℕ) → Type 0
Current x t ts b = (y : Transaction) × (latest t ts ≡ Some y) × Linked x y b

pub record Linkage (xs : List Seat) (g : Ghost) (ts : List Transaction) : Type 0 where
  pub live : (t : ℕ) → t < 16 → ((seat_at xs t).phase ≡ Idle → ⊥) → Current (seat_at xs t) t ts (g.base t)
  pub up : (y : Transaction) → In y ts → is_committed y ≡ true → (c : Card) × In c g.cards × CardOf y c
  pub down : (c : Card) → In c g.cards → (y : Transaction) × In y ts × (is_committed y ≡ true) × CardOf y c
  pub apart : Apart ts

abbrev pub Link : State → Ghost → List Transaction → Type 0
Link s g ts = Linkage s.seats g ts

-- a call joins its tool's transaction
module _ (s s' : State) (g : Ghost) (b : ℕ → ℕ → ℕ) (ts : List Transaction) (k : Link s g ts) (z : Sound s) (e : Accepted) (y : Transaction) (x : Seat)
    (ly : latest (tool_of e.0) ts ≡ Some y) (lt : tool_of e.0 < 16) (tl : s'.seats ≡ set s.seats (tool_of e.0) x)
    (bases : (u : ℕ) → (u ≡ tool_of e.0 → ⊥) → b u ≡ g.base u)
    (mine : (x.phase ≡ Idle → ⊥) → Linked x (extended e y) (b (tool_of e.0))) where
  live_join : (u : ℕ) → u < 16 → ((seat s' u).phase ≡ Idle → ⊥) → Current (seat s' u) u (join e ts) (b u)
  live_join u h n = go (seat_cases s.seats (tool_of e.0) x (let a = z.sixteen in omega arith) u)
    where
      same : seat s' u ≡ get_or (set s.seats (tool_of e.0) x) u (fresh 0)
      same = ap (λ (l : List Seat). get_or l u (fresh 0)) tl

      go : SeatCases s.seats (tool_of e.0) x u → Current (seat s' u) u (join e ts) (b u)
      go (inl (p, q)) = subst (λ (a : Seat). Current a u (join e ts) (b u)) (sym (same ∙ q))
          (subst (λ (v : ℕ). Current x v (join e ts) (b v)) (sym p)
          (extended e y, latest_join e ts y ly, mine (λ i. n (ap (λ (a : Seat). a.phase) (same ∙ q) ∙ i))))
      go (inr (p, q)) =
          let c = k.live u h (λ i. n (ap (λ (a : Seat). a.phase) (same ∙ q) ∙ i)) in
          subst (λ (a : Seat). Current a u (join e ts) (b u)) (sym (same ∙ q))
          (subst (λ (v : ℕ → ℕ). Current (seat s u) u (join e ts) v) (sym (bases u p)) (c.0, latest_other e u ts p ∙ c.1, c.2))

  pub link_join : (is_committed y ≡ true → (is_committed (extended e y) ≡ true) × (stamp_of (extended e y) ≡ stamp_of y) × Neutral e)
      → (is_committed (extended e y) ≡ true → is_committed y ≡ true) → Link s' (record { cards = g.cards; base = b }) (join e ts)
  link_join keep came = record {
    live = live_join;
    up = λ v m c. up v c (in_join e ts y v ly m);
    down = λ c m. let r = k.down c m in down c r.0 r.2 r.3 (in_old e ts y r.0 ly r.1);
    apart = apart_join e ts y ly (λ c. inl (came c, (keep (came c)).1)) k.apart;
  }
    where
      grown : (c : Card) → is_committed y ≡ true → CardOf y c → CardOf (extended e y) c
      grown c h r = ((keep h).1 ∙ r.0, (keep h).2 y.calls c.entries c.base r.1)

      up : (v : Transaction) → is_committed v ≡ true → (v ≡ extended e y) ⊎ In v ts → (c : Card) × In c g.cards × CardOf v c
      up v c (inl p) =
          let cy : is_committed y ≡ true = came (subst (λ (a : Transaction). is_committed a ≡ true) p c) in
          let r = k.up y (latest_in (tool_of e.0) ts y ly) cy in
          (r.0, r.1, subst (λ (a : Transaction). CardOf a r.0) (sym p) (grown r.0 cy r.2))
      up v c (inr m) = k.up v m c

      down : (c : Card) (v : Transaction) → is_committed v ≡ true → CardOf v c → (v ≡ y) ⊎ In v (join e ts) → (a : Transaction) × In a (join e ts) × (is_committed a ≡ true) × CardOf a c
      down c v h r (inl p) =
          let cy : is_committed y ≡ true = subst (λ (a : Transaction). is_committed a ≡ true) p h in
          (extended e y, in_new e ts y ly, (keep cy).0, grown c cy (subst (λ (a : Transaction). CardOf a c) p r))
      down c v h r (inr m) = (v, m, h, r)

  pub link_commit : (c : Card) → is_committed (extended e y) ≡ true → CardOf (extended e y) c → stamp_of y ≡ c.stamp → ((d : Card) → In d g.cards → d.stamp ≡ c.stamp → ⊥)
      → Link s' (record { cards = c ∷ g.cards; base = b }) (join e ts)
  link_commit c ce co sy n = record {
    live = live_join;
    up = λ v m h. up v h (in_join e ts y v ly m);
    down = down;
    apart = apart_join e ts y ly (λ _. inr (λ v m h q. let r = k.up v m h in n r.0 r.1 (sym r.2.0 ∙ (q ∙ co.0)))) k.apart;
  }
    where
      up : (v : Transaction) → is_committed v ≡ true → (v ≡ extended e y) ⊎ In v ts → (d : Card) × In d (c ∷ g.cards) × CardOf v d
      up v h (inl p) = (c, inl refl, subst (λ (a : Transaction). CardOf a c) (sym p) co)
      up v h (inr m) = let r = k.up v m h in (r.0, inr r.1, r.2)

      old : (d : Card) (v : Transaction) → In d g.cards → is_committed v ≡ true → CardOf v d → (v ≡ y) ⊎ In v (join e ts) → (a : Transaction) × In a (join e ts) × (is_committed a ≡ true) × CardOf a d
      old d v m h r (inl p) = absurd (n d m (sym r.0 ∙ (ap stamp_of p ∙ sy)))
      old d v m h r (inr q) = (v, q, h, r)

      down : (d : Card) → In d (c ∷ g.cards) → (a : Transaction) × In a (join e ts) × (is_committed a ≡ true) × CardOf a d
      down d (inl p) = (extended e y, in_new e ts y ly, ce, subst (λ (a : Card). CardOf (extended e y) a) (sym p) co)
      down d (inr m) = let r = k.down d m in old d r.0 m r.2 r.3 (in_old e ts y r.0 ly r.1)

module _ (s : State) (g : Ghost) (ts : List Transaction) (k : Link s g ts) (z : Sound s) (t : ℕ) (lt : t < 16) where
  cases : (x : Seat) (u : ℕ) → SeatCases s.seats t x u
  cases x u = seat_cases s.seats t x (let a = z.sixteen in omega arith) u

  -- a transaction begins
  abbrev born : Transaction
  born = record { tool = t; calls = [] }

  pub link_begin : (x : Seat) → x.phase ≡ Open → x.entries ≡ [] → Link (reseat s t x) g (record { tool = t; calls = [] } ∷ ts)
  link_begin x op em = record {
    live = λ u h n. live u h n (cases x u);
    up = up;
    down = λ c m. let r = k.down c m in (r.0, inr r.1, r.2, r.3);
    apart = ((λ y m h. absurd (both_ways false refl h)), k.apart);
  }
    where
      mine : Linked x born (g.base t)
      mine = record {
        tied = subst (λ (l : List Entry). Tied [] l (g.base t)) (sym em) (tied_none (g.base t));
        stamp = λ l. absurd (subst Stamped op l);
        fresh = λ _. refl;
        quiet = λ _ i. refl;
        unsettled = λ _ i e f h. refl;
        done = λ q. absurd (clash x.phase Open Committed op q refl);
      }

      live : (u : ℕ) → u < 16 → ((seat (reseat s t x) u).phase ≡ Idle → ⊥) → SeatCases s.seats t x u → Current (seat (reseat s t x) u) u (born ∷ ts) (g.base u)
      live u h n (inl (p, q)) = subst (λ (a : Seat). Current a u (born ∷ ts) (g.base u)) (sym q)
          (subst (λ (v : ℕ). Current x v (born ∷ ts) (g.base v)) (sym p) (born, rw (eq-eqb t t refl), mine))
      live u h n (inr (p, q)) =
          let c = k.live u h (λ i. n (ap (λ (a : Seat). a.phase) q ∙ i)) in
          subst (λ (a : Seat). Current a u (born ∷ ts) (g.base u)) (sym q) (c.0, rw (ne_eqb u t p) c.1, c.2)

      up : (y : Transaction) → In y (born ∷ ts) → is_committed y ≡ true → (c : Card) × In c g.cards × CardOf y c
      up y (inl p) h = absurd (both_ways (is_committed y) (ap is_committed p) h)
      up y (inr m) h = k.up y m h

  -- a rejected certification
  pub link_fail : (seat s t).phase ≡ Closed → Link (reseat s t (phased (seat s t) Failed)) g ts
  link_fail cl = record { live = λ u h n. live u h n (cases failed u); up = k.up; down = k.down; apart = k.apart }
    where
      failed : Seat
      failed = phased (seat s t) Failed

      neither : (Failed ≡ Open) ⊎ (Failed ≡ Closed) → ⊥
      neither (inl q) = clash Failed Failed Open refl q refl
      neither (inr q) = clash Failed Failed Closed refl q refl

      mine : (y : Transaction) → Linked (seat s t) y (g.base t) → Linked failed y (g.base t)
      mine y l = record {
        tied = l.tied;
        stamp = λ _. l.stamp (stamped_at (seat s t).phase Closed cl tt);
        fresh = λ q. absurd (clash Failed Failed Open refl q refl);
        quiet = λ q. absurd (neither q);
        unsettled = λ q. absurd (clash Failed Failed Committed refl q refl);
        done = λ q. absurd (clash Failed Failed Committed refl q refl);
      }

      live : (u : ℕ) → u < 16 → ((seat (reseat s t failed) u).phase ≡ Idle → ⊥) → SeatCases s.seats t failed u → Current (seat (reseat s t failed) u) u ts (g.base u)
      live u h n (inl (p, q)) =
          let c = k.live t lt (λ i. clash (seat s t).phase Closed Idle cl i refl) in
          subst (λ (a : Seat). Current a u ts (g.base u)) (sym q)
          (subst (λ (v : ℕ). Current failed v ts (g.base v)) (sym p) (c.0, c.1, mine c.0 c.2))
      live u h n (inr (p, q)) = subst (λ (a : Seat). Current a u ts (g.base u)) (sym q) (k.live u h (λ i. n (ap (λ (a : Seat). a.phase) q ∙ i)))
