-- The invariant of the certification, over the state and a card for each committed transaction.
use Rattle.std.proofs.Common.{◌≡◌, ℕ, ◌+◌, ◌*◌, ◌/◌, ◌%◌, ◌<◌, ◌≤◌, true, ◌⊎◌, List, [], ◌∷◌, length, get_or, set, Some, sym, subst, inl, inr, arith}
use Rattle.store.specs.declared.Version.{Version}
use Rattle.service.specs.declared.tools.Entry.{Entry}
use Rattle.service.specs.declared.tools.Phase.TheVariants.{Closed, Committed}
use Rattle.service.specs.declared.tools.Stand.TheVariants.{Bare}
use Rattle.service.specs.Entries.{is_held, find, stood}
use Rattle.service.specs.Service.{Seat, State, seat, version, fresh, largest}
use Rattle.service.specs.Sound.{Stamped, Sound}
use Rattle.service.proofs.Seats.{SeatCases, seat_cases}
use Rattle.history.specs.Serial.{In, cells}
use Rattle.history.proofs.Order.{cell}

-- a committed transaction: its entries as they were committed, and the values that it first read
pub record Card : Type 0 where
  pub tool : ℕ
  pub stamp : ℕ
  pub entries : List Entry
  pub base : ℕ → ℕ

-- the cards, and the values that each tool's transaction first read
pub record Ghost : Type 0 where
  pub cards : List Card
  pub base : ℕ → ℕ → ℕ

-- an entry but for its stand
abbrev pub core : Entry → Entry
core e = stood e Bare

-- the value v stamped w of item i is the start's, or a card's
abbrev pub Source : List Version → List Card → ℕ → ℕ → ℕ → Type 0
Source vs C i w v = (cells vs i ≡ cell v w) ⊎ ((c : Card) × In c C × (c.stamp ≡ w) × (e : Entry) × (find i c.entries ≡ Some e) × (e.written ≡ true) × (e.value ≡ v))

pub record SeatOk (vs : List Version) (C : List Card) (b : ℕ → ℕ) (t : ℕ) (x : Seat) : Type 0 where
  pub last : largest vs / 16 ≤ x.last
  pub cards : (c : Card) → In c C → c.tool ≡ t → c.stamp ≤ x.last * 16 + t
  pub stamp : Stamped x.phase → (largest vs < x.stamp) × (x.stamp ≤ x.last * 16 + t)
  pub new : x.phase ≡ Closed → (c : Card) → In c C → c.tool ≡ t → c.stamp ≡ x.stamp → ⊥
  pub item : (i : ℕ) (e : Entry) → find i x.entries ≡ Some e → i < length vs
  pub source : (i : ℕ) (e : Entry) (w : ℕ) → find i x.entries ≡ Some e → e.seen ≡ Some w → Source vs C i w (b i)
  pub older : x.phase ≡ Closed → (i : ℕ) (e : Entry) (w : ℕ) → find i x.entries ≡ Some e → is_held e.stand ≡ true → e.seen ≡ Some w → w < x.stamp
  pub card : x.phase ≡ Committed → (i : ℕ) (e : Entry) → find i x.entries ≡ Some e → is_held e.stand ≡ true
      → (c : Card) × In c C × (c.stamp ≡ x.stamp) × (f : Entry) × (find i c.entries ≡ Some f) × (core f ≡ core e)

-- a card's entry stands as a token, or is settled
abbrev pub Stands : Seat → ℕ → ℕ → Entry → Type 0
Stands x st i e = (x.phase ≡ Committed) × (x.stamp ≡ st) × (f : Entry) × (find i x.entries ≡ Some f) × (is_held f.stand ≡ true) × (core f ≡ core e)

abbrev pub Done : Version → ℕ → Entry → Type 0
Done v st e = ((w : ℕ) → e.seen ≡ Some w → st ≤ v.tread) × (e.written ≡ true → st ≤ v.twrite)

abbrev pub CardHolds : List Card → ℕ → ℕ → Entry → Type 0
CardHolds C st i e = (c : Card) × In c C × (c.stamp ≡ st) × (find i c.entries ≡ Some e)

abbrev pub SeatHolds : Seat → ℕ → ℕ → Entry → Type 0
SeatHolds x st i e = (x.phase ≡ Closed) × (x.stamp ≡ st) × (find i x.entries ≡ Some e) × (is_held e.stand ≡ true)

abbrev pub seat_at : List Seat → ℕ → Seat
seat_at xs t = get_or xs t (fresh 0)

-- e is held for item i under the stamp st, by a card or by a closed transaction
abbrev pub HeldBy : List Seat → List Card → ℕ → ℕ → Entry → Type 0
HeldBy xs C st i e = CardHolds C st i e ⊎ ((t : ℕ) × (t < 16) × SeatHolds (seat_at xs t) st i e)

-- no write lies between a reader and what it read
abbrev pub Gap : List Seat → List Card → Type 0
Gap xs C = (i w st st' : ℕ) (e f : Entry) → HeldBy xs C st i e → e.seen ≡ Some w → HeldBy xs C st' i f → f.written ≡ true → w < st' → st' < st → ⊥

abbrev pub Apart : List Card → Type 0
Apart [] = Unit
Apart (c ∷ cs) = ((d : Card) → In d cs → d.stamp ≡ c.stamp → ⊥) × Apart cs

-- over the versions at start, the versions and the seats now, and the cards
pub record Carded (vs ws : List Version) (xs : List Seat) (g : Ghost) : Type 0 where
  pub count : length ws ≡ length vs
  pub seats : (t : ℕ) → t < 16 → SeatOk vs g.cards (g.base t) t (seat_at xs t)
  pub store : (i : ℕ) → i < length vs → Source vs g.cards i (version ws i).twrite (version ws i).value
  pub card_stamp : (c : Card) → In c g.cards → (c.tool < 16) × (c.stamp % 16 ≡ c.tool) × (largest vs < c.stamp)
  pub card_source : (c : Card) (i : ℕ) (e : Entry) (w : ℕ) → In c g.cards → find i c.entries ≡ Some e → e.seen ≡ Some w → Source vs g.cards i w (c.base i)
  pub card_older : (c : Card) (i : ℕ) (e : Entry) (w : ℕ) → In c g.cards → find i c.entries ≡ Some e → e.seen ≡ Some w → w < c.stamp
  pub cover : (c : Card) (i : ℕ) (e : Entry) → In c g.cards → find i c.entries ≡ Some e
      → Stands (seat_at xs c.tool) c.stamp i e ⊎ Done (version ws i) c.stamp e
  pub gap : Gap xs g.cards
  pub apart : Apart g.cards

abbrev pub Core : List Version → State → Ghost → Type 0
Core vs s g = Carded vs s.versions s.seats g

-- one seat is changed, and no version
module _ (vs : List Version) (s : State) (g : Ghost) (k : Core vs s g) (z : Sound s) (t : ℕ) (lt : t < 16) (x : Seat) where
  cases : (u : ℕ) → SeatCases s.seats t x u
  cases u = seat_cases s.seats t x (let a = z.sixteen in omega arith) u

  pub seat_core : (b : ℕ → ℕ → ℕ) → ((u : ℕ) → (u ≡ t → ⊥) → b u ≡ g.base u)
      → SeatOk vs g.cards (b t) t x
      → ((seat s t).phase ≡ Committed → ⊥)
      → Gap (set s.seats t x) g.cards
      → Carded vs s.versions (set s.seats t x) (record { cards = g.cards; base = b })
  seat_core b same ok nc gp = record {
    count = k.count;
    seats = λ u h. one u h (cases u);
    store = k.store;
    card_stamp = k.card_stamp;
    card_source = k.card_source;
    card_older = k.card_older;
    cover = λ c i e m f. cov c i e (k.cover c i e m f) (cases c.tool);
    gap = gp;
    apart = k.apart;
  }
    where
      one : (u : ℕ) → u < 16 → SeatCases s.seats t x u → SeatOk vs g.cards (b u) u (seat_at (set s.seats t x) u)
      one u h (inl (p, q)) = subst (SeatOk vs g.cards (b u) u) (sym q) (subst (λ (n : ℕ). SeatOk vs g.cards (b n) n x) (sym p) ok)
      one u h (inr (p, q)) = subst (SeatOk vs g.cards (b u) u) (sym q) (subst (λ (f : ℕ → ℕ). SeatOk vs g.cards f u (seat s u)) (sym (same u p)) (k.seats u h))

      cov : (c : Card) (i : ℕ) (e : Entry) → Stands (seat s c.tool) c.stamp i e ⊎ Done (version s.versions i) c.stamp e
          → SeatCases s.seats t x c.tool → Stands (seat_at (set s.seats t x) c.tool) c.stamp i e ⊎ Done (version s.versions i) c.stamp e
      cov c i e (inr y) r = inr y
      cov c i e (inl y) (inl (p, q)) = absurd (nc (subst (λ (n : ℕ). (seat s n).phase ≡ Committed) p y.0))
      cov c i e (inl y) (inr (p, q)) = inl (subst (λ (n : Seat). Stands n c.stamp i e) (sym q) y)

  -- nothing more is held
  pub same_gap : (x.phase ≡ Closed → (i : ℕ) (e : Entry) → find i x.entries ≡ Some e → is_held e.stand ≡ true → ⊥) → Gap (set s.seats t x) g.cards
  same_gap cl i w st st' e f h se h' wr = k.gap i w st st' e f (back st i e h) se (back st' i f h') wr
    where
      back : (n j : ℕ) (d : Entry) → HeldBy (set s.seats t x) g.cards n j d → HeldBy s.seats g.cards n j d
      back n j d (inl c) = inl c
      back n j d (inr (u, l, r)) = go (cases u)
        where
          go : SeatCases s.seats t x u → HeldBy s.seats g.cards n j d
          go (inl (p, q)) =
              let y : SeatHolds x n j d = subst (λ (a : Seat). SeatHolds a n j d) q r in
              absurd (cl y.0 j d y.2 y.3)
          go (inr (p, q)) = inr (u, l, subst (λ (a : Seat). SeatHolds a n j d) q r)
