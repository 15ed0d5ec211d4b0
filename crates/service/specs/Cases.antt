-- Worked cases of certification, settlement and closing, each computed on the definitions.
use Rattle.std.specs.Prelude.{◌≡◌, ℕ, ◌-◌, ◌^◌, true, false, List, [], ◌∷◌, Some, None, Ok, Err, Option, Result}
use Rattle.store.specs.declared.Version.{Version}
use Rattle.service.specs.declared.refusals.Refusal.{Refusal}
use Rattle.service.specs.declared.refusals.Refusal.TheVariants.{TickTooLarge, CounterSpent}
use Rattle.service.specs.declared.calls.Answer.{Answer}
use Rattle.service.specs.declared.calls.Answer.TheVariants.{Done, Stamp}
use Rattle.service.specs.declared.calls.Call.{Call}
use Rattle.service.specs.declared.calls.Call.TheVariants.{Begin, Close, Abort}
use Rattle.service.specs.Tokens.{ReadToken, WriteToken}
use Rattle.service.specs.declared.tools.Entry.{Entry}
use Rattle.service.specs.declared.tools.Stand.TheVariants.{Bare}
use Rattle.service.specs.Refusals.{number, refusal}
use Rattle.service.specs.Certification.{certification}
use Rattle.service.specs.Entries.{settled_version}
use Rattle.service.specs.Service.{State, claim, meets, step, start}

-- one item with these stamps, and tokens of it with those
abbrev pub at : ℕ → ℕ → Version
at tw tr = record { value = 0; twrite = tw; tread = tr }

abbrev pub reads_at : List ℕ → List ReadToken
reads_at [] = []
reads_at (n ∷ ns) = record { tool = 0; item = 0; stamp = n; value = tt } ∷ reads_at ns

abbrev pub writes_at : List ℕ → List WriteToken
writes_at [] = []
writes_at (n ∷ ns) = record { tool = 0; item = 0; stamp = n; value = 0 } ∷ writes_at ns

abbrev pub one_item : Version → List ℕ → List ℕ → State
one_item v rs ws = record { versions = v ∷ []; seats = []; reads = reads_at rs; writes = writes_at ws }

abbrev pub reader : ℕ → Entry
reader w = record { item = 0; value = 0; seen = Some w; written = false; stand = Bare }

abbrev pub writer : Entry
writer = record { item = 0; value = 0; seen = None; written = true; stand = Bare }

abbrev pub reader_and_writer : ℕ → Entry
reader_and_writer w = record { item = 0; value = 0; seen = Some w; written = true; stand = Bare }

-- the number of the rejection, 0 if the entry is honoured
abbrev pub number_or : Option Refusal → ℕ
number_or None = 0
number_or (Some r) = number r

abbrev pub verdict : State → Entry → ℕ → ℕ
verdict s e st = number_or (refusal (certification (claim e st) (meets s 0 st)))

-- the answers to calls in their order
abbrev pub answers : State → List Call → List (Result Answer Refusal)
answers s [] = []
answers s (c ∷ cs) = (step s c).0 ∷ answers (step s c).1 cs

abbrev pub verdicts : List ℕ
verdicts =
    verdict (one_item (at 0 0) [] []) (reader 0) 16
    ∷ verdict (one_item (at 16 0) [] []) (reader 0) 32
    ∷ verdict (one_item (at 161 0) [] []) (reader 161) 32
    ∷ verdict (one_item (at 0 0) [] (33 ∷ [])) (reader 0) 32
    ∷ verdict (one_item (at 0 0) [] (33 ∷ [])) (reader 0) 48
    ∷ verdict (one_item (at 48 0) [] (33 ∷ [])) (reader 48) 64
    ∷ verdict (one_item (at 0 160) (80 ∷ []) []) writer 112
    ∷ verdict (one_item (at 0 0) (80 ∷ []) []) writer 64
    ∷ verdict (one_item (at 0 0) (80 ∷ []) []) writer 96
    ∷ verdict (one_item (at 160 0) [] []) writer 48
    ∷ verdict (one_item (at 0 0) (80 ∷ []) (48 ∷ [])) (reader_and_writer 0) 64
    ∷ []

pub record CasesHold : Type 0 where
  pub certified : verdicts ≡ 0 ∷ 9 ∷ 10 ∷ 0 ∷ 11 ∷ 0 ∷ 12 ∷ 13 ∷ 0 ∷ 0 ∷ 11 ∷ []
  -- a late write is dropped, and an early reader does not lower tread
  pub settled : settled_version writer 48 (at 160 0) ∷ settled_version (reader 0) 80 (at 0 160) ∷ [] ≡ at 160 0 ∷ at 0 160 ∷ []
  -- counters go up from tick and from the last one
  pub closed : answers (start []) (Begin 3 ∷ Close 3 9 ∷ Abort 3 ∷ Begin 3 ∷ Close 3 2 ∷ []) ≡ Ok Done ∷ Ok (Stamp 163) ∷ Ok Done ∷ Ok Done ∷ Ok (Stamp 179) ∷ []
  -- and end at 2 ^ 40
  pub spent : answers (start []) (Begin 3 ∷ Close 3 (2 ^ 40 - 1) ∷ Abort 3 ∷ Begin 3 ∷ Close 3 0 ∷ Close 3 (2 ^ 40) ∷ [])
      ≡ Ok Done ∷ Ok (Stamp 17592186044419) ∷ Ok Done ∷ Ok Done ∷ Err CounterSpent ∷ Err TickTooLarge ∷ []
