-- Every run keeps the invariants, and so the law holds.
use Rattle.std.proofs.Common.{◌≡◌, ℕ, ◌/◌, Bool, true, false, cond, List, [], Some, None, Option, Result, sym, refl, ap, subst, inl, inr, arith}
use Rattle.store.specs.declared.Version.{Version}
use Rattle.service.specs.declared.refusals.Refusal.{Refusal}
use Rattle.service.specs.declared.calls.Call.{Call}
use Rattle.service.specs.declared.calls.Answer.{Answer}
use Rattle.service.specs.declared.tools.Entry.{Entry}
use Rattle.service.specs.declared.tools.Phase.TheVariants.{Idle, Closed, Failed}
use Rattle.service.specs.Refusals.{refusal, rejects}
use Rattle.service.specs.Service.{Seat, State, seat, fresh, largest, tool_of, rules, phased, reseat, outcome, step, start}
use Rattle.service.specs.Sound.{Sound}
use Rattle.service.proofs.Phases.{clash}
use Rattle.service.proofs.Entries.{no_find}
use Rattle.service.proofs.Rules.{clear, rejected}
use Rattle.service.proofs.Sound.{at_start, sound_start, sound_step}
use Rattle.history.specs.History.{History}
use Rattle.history.specs.Transactions.{Transaction, counted, transactions}
use Rattle.history.specs.Runs.{Run, started, called, SerialOrder}
use Rattle.history.proofs.Cards.{Ghost, SeatOk, HeldBy, Core}
use Rattle.history.proofs.Moves.{bare_ok, fail_core}
use Rattle.history.proofs.Link.{Link, link_fail}
use Rattle.history.proofs.Steps.{kept}
use Rattle.history.proofs.Final.{reads_hold, item_holds}

-- start: no card
abbrev blank_ghost : Ghost
blank_ghost = record { cards = []; base = λ (_ _ : ℕ). 0 }

start_core : (vs : List Version) → Core vs (start vs) blank_ghost
start_core vs = record {
  count = refl;
  seats = λ t h. subst (SeatOk vs [] (λ (_ : ℕ). 0) t) (sym (at_start vs t h))
      (bare_ok vs [] (λ (_ : ℕ). 0) t (fresh (largest vs / 16)) (omega arith) (λ c m. absurd m) (λ h. absurd h) (λ _ c m. absurd m) (λ i e f. absurd (no_find e f)) (λ i e w f. absurd (no_find e f)) refl);
  store = λ i h. inl refl;
  card_stamp = λ c m. absurd m;
  card_source = λ c i e w m. absurd m;
  card_older = λ c i e w m. absurd m;
  cover = λ c i e m. absurd m;
  gap = λ i w n n' e f h se h' wr a b. nobody n i e h;
  apart = tt;
}
  where
    nobody : (n i : ℕ) (e : Entry) → HeldBy (start vs).seats [] n i e → ⊥
    nobody n i e (inl (c, m, q, f)) = m
    nobody n i e (inr (t, h, r)) = clash (seat (start vs) t).phase Idle Closed (ap (λ (x : Seat). x.phase) (at_start vs t h)) r.0 refl

start_link : (vs : List Version) → Link (start vs) blank_ghost []
start_link vs = record {
  live = λ t h n. absurd (n (ap (λ (x : Seat). x.phase) (at_start vs t h)));
  up = λ y m. absurd m;
  down = λ c m. absurd m;
  apart = tt;
}

-- the invariants of a history's transactions and the state after it
abbrev Inv : List Version → State → List Transaction → Type 0
Inv vs s ts = (g : Ghost) × Core vs s g × Link s g ts × Sound s

abbrev After : List Version → Call → List Transaction → Result Answer Refusal × State → Type 0
After vs c ts o = Inv vs o.1 (counted c o.0 ts)

step_inv : (vs : List Version) (s : State) (ts : List Transaction) → Inv vs s ts → (c : Call) → After vs c ts (step s c)
step_inv vs s ts (g, k, l, z) c = go (refusal (rules s c)) refl (sound_step s c z)
  where
    fail : (b : Bool) (r : Refusal) → refusal (rules s c) ≡ Some r → rejects r ≡ b → Sound (cond b (reseat s (tool_of c) (phased (seat s (tool_of c)) Failed)) s)
        → Inv vs (cond b (reseat s (tool_of c) (phased (seat s (tool_of c)) Failed)) s) ts
    fail true r h f z' = let q = rejected s c r h f in (g, fail_core vs s g k z (tool_of c) q.0 q.1, link_fail s g ts l z (tool_of c) q.0 q.1, z')
    fail false r h f z' = (g, k, l, z)

    go : (o : Option Refusal) → refusal (rules s c) ≡ o → Sound (outcome s (seat s (tool_of c)) c o).1 → After vs c ts (outcome s (seat s (tool_of c)) c o)
    go None h z' = let y = kept vs s g ts k l z c (clear (rules s c) h) in (y.0, y.1, y.2, z')
    go (Some r) h z' = fail (rejects r) r h refl z'

run_inv : (vs : List Version) {h : History} {s : State} → Run vs h s → Inv vs s (transactions h)
run_inv vs started = (blank_ghost, start_core vs, start_link vs, sound_start vs)
run_inv vs (called {h = h} {s = s} c a s' r d) = subst (After vs c (transactions h)) d (step_inv vs s (transactions h) (run_inv vs r) c)

pub run_sound : (vs : List Version) (h : History) (s : State) → Run vs h s → Sound s
run_sound vs h s r = (run_inv vs r).3

pub serial_order : SerialOrder
serial_order vs h s r = let (g, k, l, z) = run_inv vs r in record {
  serial_reads = reads_hold vs s g (transactions h) k l;
  serial_item = item_holds vs s g (transactions h) k l;
  serial_store = λ al i il. item_holds vs s g (transactions h) k l i il (al i);
  length = k.count;
}
