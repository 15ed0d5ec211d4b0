-- From a tool's own record to the whole state.
use Rattle.std.proofs.Common.{◌≡◌, ℕ, ◌<◌, List, length, get_or, set, Some, None, Ok, Err, Option, Result, sym, refl, ap, ◌∙◌, subst}
use Rattle.std.proofs.lemmas.List.{get_or-map, map-set, set-get_or}
use Rattle.store.specs.declared.Version.{Version}
use Rattle.service.specs.declared.refusals.Refusal.{Refusal}
use Rattle.service.specs.declared.calls.Answer.{Answer}
use Rattle.service.specs.declared.calls.Call.{Call}
use Rattle.service.specs.declared.calls.Call.TheVariants.{Begin, Read, Write, Close, Certify, Commit, Abort, Settle}
use Rattle.service.specs.declared.tools.Tool.{Tool}
use Rattle.service.specs.declared.desks.Desk.{Desk}
use Rattle.service.specs.declared.desks.Effect.{Effect}
use Rattle.service.specs.declared.desks.Change.{Change}
use Rattle.service.specs.Refusals.{refusal}
use Rattle.service.specs.Service.{Seat, State, seat, fresh, tool_of, tests, answer, next_seat, next, reseat, outcome, reply, Replies}
use Rattle.service.specs.Desks.{seat_of, state, told, changed, change_of, stored}
use Rattle.service.proofs.Rules.{Mild, mild_refusal}

-- the calls that touch neither versions nor queues
abbrev pub SeatOnly : Call → Type 0
SeatOnly (Begin t) = Unit
SeatOnly (Read t i) = Unit
SeatOnly (Write t i v) = Unit
SeatOnly (Close t k) = Unit
SeatOnly (Certify t i) = ⊥
SeatOnly (Commit t) = Unit
SeatOnly (Abort t) = Unit
SeatOnly (Settle t i) = ⊥

seat_only_mild : (s : State) (x : Seat) (c : Call) → SeatOnly c → Mild (tests s x c)
seat_only_mild s x (Begin t) o = tt
seat_only_mild s x (Read t i) o = (refl, (refl, tt))
seat_only_mild s x (Write t i v) o = (refl, (refl, tt))
seat_only_mild s x (Close t k) o = (refl, (refl, tt))
seat_only_mild s x (Certify t i) o = absurd o
seat_only_mild s x (Commit t) o = (refl, tt)
seat_only_mild s x (Abort t) o = tt
seat_only_mild s x (Settle t i) o = absurd o

seat_only_next : (s : State) (x : Seat) (c : Call) → SeatOnly c → next s x c ≡ reseat s (tool_of c) (next_seat s x c)
seat_only_next s x (Begin t) o = refl
seat_only_next s x (Read t i) o = refl
seat_only_next s x (Write t i v) o = refl
seat_only_next s x (Close t k) o = refl
seat_only_next s x (Certify t i) o = absurd o
seat_only_next s x (Commit t) o = refl
seat_only_next s x (Abort t) o = refl
seat_only_next s x (Settle t i) o = absurd o

pub reseat_same : (s : State) (t : ℕ) → reseat s t (seat s t) ≡ s
reseat_same s t = ap (λ (xs : List Seat). record { versions = s.versions; seats = xs; reads = s.reads; writes = s.writes }) (set-get_or s.seats t (fresh 0))

-- a reply of its own tool is what the call does
replied : (s : State) (c : Call) → SeatOnly c → (a : Result Answer Refusal) (y : Seat) → Replies s (seat s (tool_of c)) c a y
    → outcome s (seat s (tool_of c)) c (refusal (tests s (seat s (tool_of c)) c)) ≡ (a, reseat s (tool_of c) y)
replied s c o a y h = go (refusal (tests s x c)) refl h
  where
    x : Seat
    x = seat s (tool_of c)

    go : (r : Option Refusal) → refusal (tests s (seat s (tool_of c)) c) ≡ r → reply s (seat s (tool_of c)) c r ≡ (a, y) → outcome s (seat s (tool_of c)) c r ≡ (a, reseat s (tool_of c) y)
    go None e q =
        ap (λ (n : State). (Ok (answer s (seat s (tool_of c)) c), n)) (seat_only_next s (seat s (tool_of c)) c o)
        ∙ ap (λ (p : Result Answer Refusal × Seat). (p.0, reseat s (tool_of c) p.1)) q
    go (Some r) e q =
        rw (mild_refusal (tests s (seat s (tool_of c)) c) (seat_only_mild s (seat s (tool_of c)) c o) r e)
        (ap (λ (n : State). (Err r, n)) (sym (reseat_same s (tool_of c)))
        ∙ ap (λ (p : Result Answer Refusal × Seat). (p.0, reseat s (tool_of c) p.1)) q)

-- tool t of the desk is read, at any default z
module _ (vs : List Version) (d : Desk) (t : ℕ) (z : Tool) (lt : t < length d.tools) where
  pub seat_at_tool : seat (state vs d) t ≡ seat_of (get_or d.tools t z)
  seat_at_tool = get_or-map seat_of d.tools t z (fresh 0) lt

  pub reseated : (y : Tool) → state vs (record { tools = set d.tools t y; reads = d.reads; writes = d.writes }) ≡ reseat (state vs d) t (seat_of y)
  reseated y = ap (λ (xs : List Seat). record { versions = vs; seats = xs; reads = (state vs d).reads; writes = (state vs d).writes }) (map-set seat_of d.tools t y)

  pub acts_seat : (c : Call) → tool_of c ≡ t → SeatOnly c → (a : Result Answer Refusal) (y : Tool) → Replies (state vs d) (seat_of (get_or d.tools t z)) c a (seat_of y)
      → outcome (state vs d) (seat (state vs d) (tool_of c)) c (refusal (tests (state vs d) (seat (state vs d) (tool_of c)) c))
      ≡ (a, state vs (record { tools = set d.tools t y; reads = d.reads; writes = d.writes }))
  acts_seat c e o a y h =
      let q : seat (state vs d) (tool_of c) ≡ seat_of (get_or d.tools t z) = ap (λ (n : ℕ). seat (state vs d) n) e ∙ seat_at_tool in
      replied (state vs d) c o a (seat_of y) (subst (λ (w : Seat). Replies (state vs d) w c a (seat_of y)) (sym q) h)
      ∙ ap (λ (n : State). (a, n)) (ap (λ (n : ℕ). reseat (state vs d) n (seat_of y)) e ∙ sym (reseated y))

  -- the same with an effect that leaves the store
  pub acts_plain : (c : Call) → tool_of c ≡ t → SeatOnly c → (a : Result Answer Refusal) (e : Result Effect Refusal) → told e ≡ a → change_of e ≡ None
      → (y : Tool) → Replies (state vs d) (seat_of (get_or d.tools t z)) c a (seat_of y)
      → outcome (state vs d) (seat (state vs d) (tool_of c)) c (refusal (tests (state vs d) (seat (state vs d) (tool_of c)) c))
      ≡ (told e, state (stored e vs) (record { tools = set d.tools t y; reads = d.reads; writes = d.writes }))
  acts_plain c i o a e p q y h =
      acts_seat c i o a y h
      ∙ (ap (λ (b : Result Answer Refusal). (b, state vs (record { tools = set d.tools t y; reads = d.reads; writes = d.writes }))) (sym p)
      ∙ ap (λ (h : Option Change). (told e, state (changed h vs) (record { tools = set d.tools t y; reads = d.reads; writes = d.writes }))) (sym q))
