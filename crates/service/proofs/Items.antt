-- The item's entry as the desk finds it, and the state once its stand and its tokens have changed.
use Rattle.std.proofs.Common.{◌≡◌, ℕ, ◌<◌, List, map, length, get_or, set, Some, None, Option, Result, sym, ap, ◌∙◌}
use Rattle.std.proofs.lemmas.List.{get_or_default, map-set}
use Rattle.store.specs.declared.Version.{Version}
use Rattle.queue.specs.Queues.{tokens}
use Rattle.service.specs.declared.calls.Call.{Call}
use Rattle.service.specs.declared.tools.Tool.{Tool}
use Rattle.service.specs.declared.desks.Desk.{Desk}
use Rattle.service.specs.Tokens.{ReadToken, WriteToken}
use Rattle.service.specs.declared.tools.Entry.{Entry}
use Rattle.service.specs.Entries.{find}
use Rattle.service.specs.Service.{Seat, State, seat, tool_of, next_seat, next_versions, next_reads, next_writes, next}
use Rattle.service.specs.declared.refusals.Refusal.{Refusal}
use Rattle.service.specs.declared.calls.Answer.{Answer}
use Rattle.service.specs.declared.desks.Effect.{Effect}
use Rattle.service.specs.declared.desks.Change.{Change}
use Rattle.service.specs.Desks.{seat_of, state, told, changed, change_of, stored}
use Rattle.service.proofs.Acts.{seat_at_tool}

-- tool t of the desk, read at index n
module _ (vs : List Version) (d : Desk) (t n : ℕ) (z : Tool) (at : n ≡ t) (lt : n < length d.tools) where
  pub own_seat : seat (state vs d) t ≡ seat_of (get_or d.tools n z)
  own_seat = ap (λ (u : ℕ). seat (state vs d) u) (sym at) ∙ seat_at_tool vs d n z lt

  pub present_at : (i : ℕ) (e : Entry) → Some e ≡ find i (seat_of (get_or d.tools n z)).entries → find i (seat (state vs d) t).entries ≡ Some e
  present_at i e h = ap (λ (x : Seat). find i x.entries) own_seat ∙ sym h

-- the tool's record after a change of the queues alone, at any defaults
pub same_tool : (d m : Desk) (n u : ℕ) (z w : Tool) → n ≡ u → u < length d.tools → m.tools ≡ d.tools → get_or m.tools n z ≡ get_or d.tools u w
same_tool d m n u z w e lt same = ap (λ (k : ℕ). get_or m.tools k z) e ∙ ap (λ (xs : List Tool). get_or xs u z) same ∙ get_or_default d.tools u z w lt

pub same_state : (vs us : List Version) (xs ys : List Seat) (rs qs : List ReadToken) (ws ps : List WriteToken) → vs ≡ us → xs ≡ ys → rs ≡ qs → ws ≡ ps
    → ◌≡◌ {A = State} (record { versions = vs; seats = xs; reads = rs; writes = ws }) (record { versions = us; seats = ys; reads = qs; writes = ps })
same_state vs us xs ys rs qs ws ps a b c e =
    let of : List Version → List Seat → List ReadToken → List WriteToken → State = λ v x r w. record { versions = v; seats = x; reads = r; writes = w } in
    ap (λ (v : List Version). of v xs rs ws) a ∙ (ap (λ (x : List Seat). of us x rs ws) b ∙ (ap (λ (r : List ReadToken). of us ys r ws) c ∙ ap (of us ys qs) e))

-- the desk d becomes m with other queues, and the call's tool, read at index n, then y
pub moved : (vs us : List Version) (d m : Desk) (c : Call) (n : ℕ) (z : Tool) (y : Tool) → n ≡ tool_of c → n < length d.tools → m.tools ≡ d.tools
    → seat_of y ≡ next_seat (state vs d) (seat_of (get_or m.tools n z)) c
    → next_versions (state vs d) (seat (state vs d) (tool_of c)) c ≡ us
    → next_reads (state vs d) (seat (state vs d) (tool_of c)) c ≡ tokens m.reads
    → next_writes (state vs d) (seat (state vs d) (tool_of c)) c ≡ tokens m.writes
    → next (state vs d) (seat (state vs d) (tool_of c)) c ≡ state us (record { tools = set m.tools n y; reads = m.reads; writes = m.writes })
moved vs us d m c n z y e lt same h v r w =
    same_state (next_versions (state vs d) (seat (state vs d) (tool_of c)) c) us
    (set (map seat_of d.tools) (tool_of c) (next_seat (state vs d) (seat (state vs d) (tool_of c)) c)) (map seat_of (set m.tools n y))
    (next_reads (state vs d) (seat (state vs d) (tool_of c)) c) (tokens m.reads)
    (next_writes (state vs d) (seat (state vs d) (tool_of c)) c) (tokens m.writes) v seats r w
  where
    here : seat (state vs d) (tool_of c) ≡ seat_of (get_or m.tools n z)
    here = own_seat vs d (tool_of c) n z e lt ∙ ap (λ (xs : List Tool). seat_of (get_or xs n z)) (sym same)

    seats : set (map seat_of d.tools) (tool_of c) (next_seat (state vs d) (seat (state vs d) (tool_of c)) c) ≡ map seat_of (set m.tools n y)
    seats =
        ap (λ (k : ℕ). set (map seat_of d.tools) k (next_seat (state vs d) (seat (state vs d) (tool_of c)) c)) (sym e)
        ∙ (ap (set (map seat_of d.tools) n) (ap (λ (x : Seat). next_seat (state vs d) x c) here ∙ sym h)
        ∙ (sym (map-set seat_of d.tools n y) ∙ ap (λ (xs : List Tool). map seat_of (set xs n y)) (sym same)))

-- an accepted call whose effect leaves the store
pub settles : (vs : List Version) (s : State) (d : Desk) (e : Result Effect Refusal) (a : Result Answer Refusal) → told e ≡ a → change_of e ≡ None → s ≡ state vs d
    → ◌≡◌ {A = Result Answer Refusal × State} (a, s) (told e, state (stored e vs) d)
settles vs s d e a p q h =
    ap (λ (n : State). (a, n)) h
    ∙ (ap (λ (b : Result Answer Refusal). (b, state vs d)) (sym p) ∙ ap (λ (x : Option Change). (told e, state (changed x vs) d)) (sym q))
