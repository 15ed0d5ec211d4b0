-- Every stamp that a run gives is new.
use Rattle.std.proofs.Common.{◌≡◌, ℕ, ◌+◌, ◌*◌, ◌/◌, ◌%◌, ◌<◌, ◌≤◌, Bool, true, false, cond, ◌⊎◌, List, ◌∷◌, get_or, Some, None, Ok, Option, Result, sym, refl, ap, subst, inl, inr, arith}
use Rattle.store.specs.declared.Version.{Version}
use Rattle.service.specs.declared.refusals.Refusal.{Refusal}
use Rattle.service.specs.declared.calls.Call.{Call}
use Rattle.service.specs.declared.calls.Call.TheVariants.{Begin, Read, Write, Close, Certify, Commit, Abort, Settle}
use Rattle.service.specs.declared.calls.Answer.{Answer}
use Rattle.service.specs.declared.calls.Answer.TheVariants.{Stamp}
use Rattle.service.specs.declared.tools.Entry.{Entry}
use Rattle.service.specs.declared.tools.Phase.TheVariants.{Committed, Aborting, Failed}
use Rattle.service.specs.declared.tools.Stand.TheVariants.{Settled}
use Rattle.service.specs.Refusals.{refusal, rejects}
use Rattle.service.specs.Entries.{enter, stood, any_held}
use Rattle.service.specs.Service.{Seat, State, seat, fresh, entry, largest, tool_of, rules, answer, phased, entered, rested, is_empty, next, next_seat, reseat, outcome, step}
use Rattle.service.specs.Sound.{Sound}
use Rattle.service.proofs.Rules.{clear, tool_below, rejected}
use Rattle.service.proofs.Seats.{SeatCases, seat_cases}
use Rattle.service.proofs.Sound.{at_start}
use Rattle.history.specs.History.{History}
use Rattle.history.specs.Serial.{In}
use Rattle.history.specs.Runs.{Run, started, called, stamp_or, stamps, Distinct, StampsFresh}
use Rattle.history.proofs.Final.{stamps_le}
use Rattle.history.proofs.Whole.{run_sound}

-- an accepted call gives no stamp and keeps the counter, or gives one under a higher counter
abbrev Counts : Answer → ℕ → ℕ → ℕ → Type 0
Counts a t old new = (((ns : List ℕ) → stamp_or (Ok a) ns ≡ ns) × (new ≡ old)) ⊎ ((a ≡ Stamp (new * 16 + t)) × (old < new))

either_last : (b : Bool) (x y : Seat) → x.last ≡ y.last → (cond b x y).last ≡ y.last
either_last true x y h = h
either_last false x y h = refl

counts : (s : State) (x : Seat) (c : Call) → Counts (answer s x c) (tool_of c) x.last (next_seat s x c).last
counts s x (Begin t) = inl ((λ ns. refl), refl)
counts s x (Read t i) = inl ((λ ns. refl), refl)
counts s x (Write t i v) = inl ((λ ns. refl), refl)
counts s x (Close t k) = inr (refl, omega arith)
counts s x (Certify t i) = inl ((λ ns. refl), refl)
counts s x (Commit t) = inl ((λ ns. refl), either_last (is_empty x.entries) (rested x) (phased x Committed) refl)
counts s x (Abort t) = inl ((λ ns. refl), either_last (any_held x.entries) (phased x Aborting) (rested x) refl)
counts s x (Settle t i) = inl ((λ ns. refl), either_last (any_held es) (entered x es) (rested x) refl)
  where
    es : List Entry
    es = enter (stood (entry x i) Settled) x.entries

pub record Fresh (vs : List Version) (ns : List ℕ) (s : State) : Type 0 where
  pub last : (t : ℕ) → t < 16 → largest vs / 16 ≤ (seat s t).last
  pub below : (t : ℕ) → t < 16 → (n : ℕ) → In n ns → n % 16 ≡ t → n ≤ (seat s t).last * 16 + t
  pub above : (n : ℕ) → In n ns → largest vs < n
  pub distinct : Distinct ns

module _ (vs : List Version) (ns : List ℕ) (s : State) (k : Fresh vs ns s) (z : Sound s) (t : ℕ) (lt : t < 16) (x : Seat) where
  cases : (u : ℕ) → SeatCases s.seats t x u
  cases u = seat_cases s.seats t x (let a = z.sixteen in omega arith) u

  abbrev s' : State
  s' = reseat s t x

  last_after : (seat s t).last ≤ x.last → (u : ℕ) → u < 16 → (seat s u).last ≤ (seat s' u).last
  last_after le u h = go (cases u)
    where
      go : SeatCases s.seats t x u → (seat s u).last ≤ (seat s' u).last
      go (inl (p, q)) = subst (λ (y : Seat). (seat s u).last ≤ y.last) (sym q) (subst (λ (n : ℕ). (seat s n).last ≤ x.last) (sym p) le)
      go (inr (p, q)) = subst (λ (y : Seat). (seat s u).last ≤ y.last) (sym q) (omega arith)

  same_fresh : x.last ≡ (seat s t).last → Fresh vs ns (reseat s t x)
  same_fresh e = record {
    last = λ u h. let a = k.last u h in let b = last_after (omega arith) u h in omega arith;
    below = λ u h n m q. let a = k.below u h n m q in let b = last_after (omega arith) u h in omega arith;
    above = k.above;
    distinct = k.distinct;
  }

  new_fresh : (seat s t).last < x.last → Fresh vs ((x.last * 16 + t) ∷ ns) (reseat s t x)
  new_fresh more = record {
    last = λ u h. let a = k.last u h in let b = last_after (omega arith) u h in omega arith;
    below = below;
    above = above;
    distinct = ((λ m. let a = k.below t lt (x.last * 16 + t) m (omega arith) in omega arith), k.distinct);
  }
    where
      mine : (u : ℕ) → u ≡ t → SeatCases s.seats t x u → (seat s' u).last ≡ x.last
      mine u e (inl (p, q)) = ap (λ (y : Seat). y.last) q
      mine u e (inr (p, q)) = absurd (p e)

      below : (u : ℕ) → u < 16 → (n : ℕ) → (n ≡ x.last * 16 + t) ⊎ In n ns → n % 16 ≡ u → n ≤ (seat s' u).last * 16 + u
      below u h n (inl e) q = let a = mine u (omega arith) (cases u) in omega arith
      below u h n (inr m) q = let a = k.below u h n m q in let b = last_after (omega arith) u h in omega arith

      above : (n : ℕ) → (n ≡ x.last * 16 + t) ⊎ In n ns → largest vs < n
      above n (inl e) = let a = k.last t lt in omega arith
      above n (inr m) = k.above n m

-- only the seats are looked at
refresh : (vs : List Version) (ns : List ℕ) (s s' : State) → s.seats ≡ s'.seats → Fresh vs ns s → Fresh vs ns s'
refresh vs ns s s' e k = record {
  last = λ t h. subst (λ (l : List Seat). largest vs / 16 ≤ (get_or l t (fresh 0)).last) e (k.last t h);
  below = λ t h n m q. subst (λ (l : List Seat). n ≤ (get_or l t (fresh 0)).last * 16 + t) e (k.below t h n m q);
  above = k.above;
  distinct = k.distinct;
}

abbrev After : List Version → List ℕ → Result Answer Refusal × State → Type 0
After vs ns o = Fresh vs (stamp_or o.0 ns) o.1

step_fresh : (vs : List Version) (ns : List ℕ) (s : State) → Fresh vs ns s → Sound s → (c : Call) → After vs ns (step s c)
step_fresh vs ns s k z c = go (refusal (rules s c)) refl
  where
    x : Seat
    x = seat s (tool_of c)

    fail : (b : Bool) (r : Refusal) → refusal (rules s c) ≡ Some r → rejects r ≡ b → Fresh vs ns (cond b (reseat s (tool_of c) (phased x Failed)) s)
    fail true r h f = same_fresh vs ns s k z (tool_of c) (rejected s c r h f).0 (phased x Failed) refl
    fail false r h f = k

    accept : tool_of c < 16 → Counts (answer s x c) (tool_of c) x.last (next_seat s x c).last → Fresh vs (stamp_or (Ok (answer s x c)) ns) (next s x c)
    accept lt (inl (e, l)) = refresh vs (stamp_or (Ok (answer s x c)) ns) (reseat s (tool_of c) (next_seat s x c)) (next s x c) refl
        (subst (λ (m : List ℕ). Fresh vs m (reseat s (tool_of c) (next_seat s x c))) (sym (e ns)) (same_fresh vs ns s k z (tool_of c) lt (next_seat s x c) l))
    accept lt (inr (e, l)) = refresh vs (stamp_or (Ok (answer s x c)) ns) (reseat s (tool_of c) (next_seat s x c)) (next s x c) refl
        (subst (λ (a : Answer). Fresh vs (stamp_or (Ok a) ns) (reseat s (tool_of c) (next_seat s x c))) (sym e) (new_fresh vs ns s k z (tool_of c) lt (next_seat s x c) l))

    go : (o : Option Refusal) → refusal (rules s c) ≡ o → After vs ns (outcome s (seat s (tool_of c)) c o)
    go None h = accept (tool_below (tool_of c) (clear (rules s c) h).0) (counts s x c)
    go (Some r) h = fail (rejects r) r h refl

run_fresh : (vs : List Version) {h : History} {s : State} → Run vs h s → Fresh vs (stamps h) s
run_fresh vs started = record {
  last = λ t h. rw (at_start vs t h) (omega arith);
  below = λ t h n m. absurd m;
  above = λ n m. absurd m;
  distinct = tt;
}
run_fresh vs (called {h = h} {s = s} c a s' r d) = subst (After vs (stamps h)) d (step_fresh vs (stamps h) s (run_fresh vs r) (run_sound vs h s r) c)

pub stamps_fresh : StampsFresh
stamps_fresh vs h s r = let k = run_fresh vs r in
    (k.distinct, λ n m i. let a = k.above n m in let b = stamps_le vs i in (omega arith, omega arith))
