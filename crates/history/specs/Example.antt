-- A run of three tools over two items, with a rejected certification and a late write that is dropped.
use Rattle.std.specs.Prelude.{◌≡◌, List, [], ◌∷◌, Ok, Err}
use Rattle.store.specs.declared.Version.{Version}
use Rattle.service.specs.declared.refusals.Refusal.TheVariants.{VersionChanged}
use Rattle.service.specs.declared.calls.Call.TheVariants.{Begin, Read, Write, Close, Certify, Commit, Abort, Settle}
use Rattle.service.specs.declared.calls.Answer.TheVariants.{Done, Value, Stamp}
use Rattle.service.specs.Service.{State}
use Rattle.history.specs.History.{History}
use Rattle.history.specs.Serial.{Law}
use Rattle.history.specs.Runs.{Run}

abbrev pub before : List Version
before = record { value = 5; twrite = 0; tread = 0 } ∷ record { value = 6; twrite = 0; tread = 0 } ∷ []

abbrev pub after : List Version
after = record { value = 8; twrite = 18; tread = 65 } ∷ record { value = 7; twrite = 115; tread = 0 } ∷ []

-- the latest first: tool 1 read item 0 before tool 2 wrote it, and begins again; its write of item 1 settles last
abbrev pub calls : History
calls =
    (Settle 1 0, Ok Done)
    ∷ (Settle 1 1, Ok Done)
    ∷ (Settle 3 1, Ok Done)
    ∷ (Commit 3, Ok Done)
    ∷ (Certify 3 1, Ok Done)
    ∷ (Close 3 6, Ok (Stamp 115))
    ∷ (Write 3 1 7, Ok Done)
    ∷ (Begin 3, Ok Done)
    ∷ (Commit 1, Ok Done)
    ∷ (Certify 1 1, Ok Done)
    ∷ (Certify 1 0, Ok Done)
    ∷ (Close 1 2, Ok (Stamp 65))
    ∷ (Write 1 1 9, Ok Done)
    ∷ (Read 1 0, Ok (Value 8))
    ∷ (Begin 1, Ok Done)
    ∷ (Abort 1, Ok Done)
    ∷ (Certify 1 0, Err VersionChanged)
    ∷ (Settle 2 0, Ok Done)
    ∷ (Commit 2, Ok Done)
    ∷ (Certify 2 0, Ok Done)
    ∷ (Close 1 2, Ok (Stamp 49))
    ∷ (Close 2 0, Ok (Stamp 18))
    ∷ (Write 1 1 9, Ok Done)
    ∷ (Write 2 0 8, Ok Done)
    ∷ (Read 2 0, Ok (Value 5))
    ∷ (Read 1 0, Ok (Value 5))
    ∷ (Begin 2, Ok Done)
    ∷ (Begin 1, Ok Done)
    ∷ []

-- the service makes this run, and it meets the law
pub record ExampleMeets : Type 0 where
  pub state : State
  pub run : Run before calls state
  pub left : state.versions ≡ after
  pub law : Law before calls after
