-- What the service's memory means: the entries and the tokens in use.
use Rattle.std.specs.Prelude.{◌≡◌, ℕ, List, [], map, Some, None, Ok, Err, Option, Result, slice_set}
use Rattle.std.specs.List.{slice_get}
use Rattle.store.specs.declared.Version.{Version}
use Rattle.queue.specs.Queues.{tokens}
use Rattle.service.specs.declared.tools.Tool.{Tool}
use Rattle.service.specs.declared.desks.Desk.{Desk}
use Rattle.service.specs.declared.desks.Change.{Change}
use Rattle.service.specs.declared.desks.Effect.{Effect}
use Rattle.service.specs.declared.refusals.Refusal.{Refusal}
use Rattle.service.specs.declared.calls.Answer.{Answer}
use Rattle.service.specs.declared.calls.Call.{Call}
use Rattle.service.specs.declared.calls.Call.TheVariants.{Begin, Read, Write, Close, Certify, Commit, Abort, Settle}
use Rattle.service.specs.Refusals.{refusal}
use Rattle.service.specs.Service.{Seat, State, seat, tool_of, tests, outcome, step}
use Rattle.service.specs.Sound.{Sound}

abbrev pub seat_of : Tool → Seat
seat_of x = record { phase = x.phase; last = x.last; stamp = x.stamp; entries = x.entries.items }

abbrev pub state : List Version → Desk → State
state vs d = record { versions = vs; seats = map seat_of d.tools; reads = tokens d.reads; writes = tokens d.writes }

-- the item that a call names
abbrev pub item_of : Call → Option ℕ
item_of (Begin t) = None
item_of (Read t i) = Some i
item_of (Write t i v) = Some i
item_of (Close t k) = None
item_of (Certify t i) = Some i
item_of (Commit t) = None
item_of (Abort t) = None
item_of (Settle t i) = Some i

-- what get answers for that item
abbrev pub Finds : List Version → Option ℕ → Option Version → Type 0
Finds vs None f = Unit {0}
Finds vs (Some i) f = slice_get vs i ≡ f

abbrev pub told : Result Effect Refusal → Result Answer Refusal
told (Ok e) = Ok e.answer
told (Err r) = Err r

abbrev pub changed : Option Change → List Version → List Version
changed None vs = vs
changed (Some c) vs = slice_set vs c.item c.version

abbrev pub change_of : Result Effect Refusal → Option Change
change_of (Ok e) = e.change
change_of (Err r) = None

-- the versions after the change is put
abbrev pub stored : Result Effect Refusal → List Version → List Version
stored r vs = changed (change_of r) vs

-- a change is handed out only where a version changes
abbrev pub Quiet : Call → Option Version → Result Effect Refusal → Type 0
Quiet c f r = (vs : List Version) → Finds vs (item_of c) f → stored r vs ≡ vs → change_of r ≡ None

-- what the desk does with a call, whatever the other versions are
abbrev pub Serves : Desk → Call → Option Version → Result Effect Refusal → Desk → Type 0
Serves d c f r d' = (vs : List Version) → Finds vs (item_of c) f → step (state vs d) c ≡ (told r, state (stored r vs) d')

-- the same once tool and phase are right
abbrev pub Acts : Desk → Call → Option Version → Result Effect Refusal → Desk → Type 0
Acts d c f r d' = (vs : List Version) → Finds vs (item_of c) f
    → outcome (state vs d) (seat (state vs d) (tool_of c)) c (refusal (tests (state vs d) (seat (state vs d) (tool_of c)) c)) ≡ (told r, state (stored r vs) d')

-- what every desk of a service shows
abbrev pub Lawful : Desk → Type 0
Lawful d = ∥ Sound (state [] d) ∥₁
