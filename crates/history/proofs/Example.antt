-- The example computed: each call gives the answer that is written beside it.
use Rattle.std.proofs.Common.{◌≡◌, List, [], ◌∷◌, Result, refl}
use Rattle.store.specs.declared.Version.{Version}
use Rattle.service.specs.declared.refusals.Refusal.{Refusal}
use Rattle.service.specs.declared.calls.Answer.{Answer}
use Rattle.service.specs.Service.{State, step, start}
use Rattle.history.specs.History.{History}
use Rattle.history.specs.Runs.{Run, started, called}
use Rattle.history.specs.Example.{ExampleMeets, before, calls}
use Rattle.history.proofs.Whole.{serial_order}

-- the state after a history's calls, whatever it says of their answers
abbrev reached : List Version → History → State
reached vs [] = start vs
reached vs (e ∷ h) = (step (reached vs h) e.0).1

-- the history says what the service answers
abbrev Answered : List Version → History → Type 0
Answered vs [] = Unit
Answered vs (e ∷ h) = ((step (reached vs h) e.0).0 ≡ e.1) × Answered vs h

pub ran : (vs : List Version) (h : History) → Answered vs h → Run vs h (reached vs h)
ran vs [] a = started
ran vs (e ∷ h) a = called e.0 e.1 (reached vs (e ∷ h)) (ran vs h a.1) (answers (step (reached vs h) e.0) e.1 a.0)
  where
    answers : (o : Result Answer Refusal × State) (b : Result Answer Refusal) → o.0 ≡ b → o ≡ (b, o.1)
    answers (x, s) b q = rw q

pub example_meets : ExampleMeets
example_meets = record {
  state = reached before calls;
  run = run;
  left = refl;
  law = serial_order before calls (reached before calls) run;
}
  where
    run : Run before calls (reached before calls)
    run = ran before calls (refl, (refl, (refl, (refl, (refl, (refl, (refl, (refl, (refl, (refl, (refl, (refl, (refl, (refl, (refl, (refl, (refl, (refl, (refl, (refl, (refl, (refl, (refl, (refl, (refl, (refl, (refl, (refl, tt))))))))))))))))))))))))))))
