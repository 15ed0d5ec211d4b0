-- That what is in hand is still its tool's: then giving it up is not refused.
use Rattle.std.specs.Prelude.{◌≡◌, ℕ, ◌<◌, true, List, Some, None, Ok, Option}
use Rattle.store.specs.declared.Version.{Version}
use Rattle.service.specs.declared.calls.Call.TheVariants.{Abort}
use Rattle.service.specs.declared.calls.Answer.TheVariants.{Done}
use Rattle.service.specs.declared.services.Service.{Service}
use Rattle.service.specs.Services.{Makes}
use Rattle.held.specs.Calls.{Performs}
use Rattle.held.specs.Held.{aborts_closed, aborts_all}
use Rattle.service.specs.declared.tools.Phase.TheVariants.{Open, Closed}
use Rattle.service.specs.Service.{State, seat}
use Rattle.service.specs.Views.{is_under}
use Rattle.tuner.specs.declared.Stop.{Stop}
use Rattle.tuner.specs.declared.Hand.{Hand}
use Rattle.tuner.specs.declared.Hand.TheVariants.{Open as OpenInHand, Closed as ClosedInHand, Granted}

-- a tool that there is, with an open transaction
pub record IsOpen (s : State) (t : ℕ) : Type 0 where
  pub known : t < 16
  pub open_then : (seat s t).phase ≡ Open

-- a tool that there is, with a transaction closed under that stamp
pub record IsClosed (s : State) (t st : ℕ) : Type 0 where
  pub known : t < 16
  pub closed_then : is_under Closed s t st ≡ true

-- what is in hand, if anything
abbrev pub Holds : State → Option Hand → Type 0
Holds s None = Unit
Holds s (Some (OpenInHand held)) = IsOpen s held.tool
Holds s (Some (ClosedInHand held)) = IsClosed s held.tool held.stamp
Holds s (Some (Granted held)) = IsClosed s held.tool held.stamp

-- what is in hand where the tuner cannot go on
abbrev pub Stands : State → Stop → Type 0
Stands s stop = Holds s stop.hand

-- x lets go of what is in hand, and is y afterwards; with nothing in hand it stays
abbrev pub LetGo : {S : Type 0} → (S → List Version) → Service S → Option Hand → Service S → Type 0
LetGo versions x None y = y ≡ x
LetGo versions x (Some (OpenInHand held)) y = Makes versions x (Abort held.tool) (Ok Done) y
LetGo versions x (Some (ClosedInHand held)) y = Performs versions x (aborts_closed held) (Ok tt) y
LetGo versions x (Some (Granted held)) y = Performs versions x (aborts_all held) (Ok tt) y

-- the same where the tuner cannot go on
abbrev pub GivenUp : {S : Type 0} → (S → List Version) → Service S → Stop → Service S → Type 0
GivenUp versions x stop y = LetGo versions x stop.hand y
