-- Calls made one after the other.
use Rattle.std.proofs.Common.{◌≡◌, Bool, true, false, List, ◌∷◌, ◌++◌, Ok, Err, Result, sym, refl, ap, ◌∙◌, subst}
use Rattle.store.specs.declared.Version.{Version}
use Rattle.service.specs.declared.refusals.Refusal.{Refusal}
use Rattle.service.specs.declared.calls.Call.{Call}
use Rattle.service.specs.declared.calls.Answer.{Answer}
use Rattle.service.specs.declared.services.Service.{Service}
use Rattle.service.specs.Service.{State}
use Rattle.service.specs.Services.{state_of, Makes}
use Rattle.history.specs.History.{History}
use Rattle.history.specs.Runs.{Run, called}
use Rattle.history.proofs.Whole.{serial_order}
use Rattle.held.specs.Calls.{after, continued, if_accepted, up_to_refusal, refusal_or, first_refusal, Deed, Made, none, more, Performs}
use Rattle.held.specs.Held.{only, only_if}

abbrev pub Stepped : Type 0
Stepped = Result Answer Refusal × State

module _ {S : Type 0} (versions : S → List Version) where
  made_run : {x y : Service S} {cs : List Call} → Made versions x cs y → (vs : List Version) (h : History) → Run vs h (state_of versions x) → Run vs (continued (state_of versions x) cs h) (state_of versions y)
  made_run none vs h r = r
  made_run {y = z} (more {y = y} {cs = cs} c a m ms) vs h r =
      subst (λ (p : Stepped). Run vs (continued p.1 cs ((c, p.0) ∷ h)) (state_of versions z)) (sym m.does) (made_run ms vs ((c, a) ∷ h) (called c a (state_of versions y) r m.does))

  pub made_after : {x y : Service S} {cs : List Call} → Made versions x cs y → after (state_of versions x) cs ≡ state_of versions y
  made_after none = refl
  made_after (more {cs = cs} c a m ms) = ap (λ (p : Stepped). after p.1 cs) m.does ∙ made_after ms

  pub made_append : {x y z : Service S} {cs ds : List Call} → Made versions x cs y → Made versions y ds z → Made versions x (cs ++ ds) z
  made_append none ns = ns
  made_append (more c a m ms) ns = more c a m (made_append ms ns)

  pub performs : {A : Type 0} (x y : Service S) (d : State → Deed A) (a : A) → Made versions x (d (state_of versions x)).calls y → a ≡ (d (state_of versions x)).answer → Performs versions x d a y
  performs x y d a m e = record {
    made = m;
    answer = e;
    runs = λ vs h r. let run = made_run m vs h r in record { run = run; law = serial_order vs _ _ run };
  }

  pub single : {A : Type 0} (x y : Service S) (c : Call) (f : Result Answer Refusal → A) (a : Result Answer Refusal) (r : A) → Makes versions x c a y → r ≡ f a → Performs versions x (only c f) r y
  single x y c f a r m e = performs x y (only c f) r (more c a m none) (e ∙ ap (λ (p : Stepped). f p.0) (sym m.does))

  -- a test before the first call
  module _ {A : Type 0} (x : Service S) (b : State → Bool) (a : A) (d : State → Deed A) where
    pub held_off : b (state_of versions x) ≡ false → Performs versions x (λ s. only_if (b s) a (d s)) a x
    held_off h = performs x x (λ s. only_if (b s) a (d s)) a
        (subst (λ (v : Bool). Made versions x (only_if v a (d (state_of versions x))).calls x) (sym h) none)
        (ap (λ (v : Bool). (only_if v a (d (state_of versions x))).answer) (sym h))

    pub let_through : (y : Service S) (r : A) → b (state_of versions x) ≡ true → Made versions x (d (state_of versions x)).calls y → r ≡ (d (state_of versions x)).answer → Performs versions x (λ s. only_if (b s) a (d s)) r y
    let_through y r h m e = performs x y (λ s. only_if (b s) a (d s)) r
        (subst (λ (v : Bool). Made versions x (only_if v a (d (state_of versions x))).calls y) (sym h) m)
        (e ∙ ap (λ (v : Bool). (only_if v a (d (state_of versions x))).answer) (sym h))

  -- the same before a single call
  pub single_through : {A : Type 0} (x y : Service S) (b : State → Bool) (n : A) (c : Call) (f : Result Answer Refusal → A) (a : Result Answer Refusal) (r : A) → b (state_of versions x) ≡ true → Makes versions x c a y → r ≡ f a
      → Performs versions x (λ s. only_if (b s) n (only c f s)) r y
  single_through x y b n c f a r h m e = let one = single x y c f a r m e in let_through x b n (only c f) y r h one.made one.answer

  -- one call more, up to the first that is refused
  module _ (x y : Service S) (c : Call) (cs : List Call) where
    pub accepted_made : (a : Answer) → Makes versions x c (Ok a) y → (z : Service S) → Made versions y (up_to_refusal (state_of versions y) cs) z → Made versions x (up_to_refusal (state_of versions x) (c ∷ cs)) z
    accepted_made a m z ms = subst (λ (p : Stepped). Made versions x (c ∷ if_accepted p.0 (up_to_refusal p.1 cs)) z) (sym m.does) (more c (Ok a) m ms)

    pub accepted_first : (a : Answer) → Makes versions x c (Ok a) y → first_refusal (state_of versions x) (c ∷ cs) ≡ first_refusal (state_of versions y) cs
    accepted_first a m = ap (λ (p : Stepped). refusal_or p.0 (first_refusal p.1 cs)) m.does

    pub refused_made : (r : Refusal) → Makes versions x c (Err r) y → Made versions x (up_to_refusal (state_of versions x) (c ∷ cs)) y
    refused_made r m = subst (λ (p : Stepped). Made versions x (c ∷ if_accepted p.0 (up_to_refusal p.1 cs)) y) (sym m.does) (more c (Err r) m none)

    pub refused_first : (r : Refusal) → Makes versions x c (Err r) y → first_refusal (state_of versions x) (c ∷ cs) ≡ Err r
    refused_first r m = ap (λ (p : Stepped). refusal_or p.0 (first_refusal p.1 cs)) m.does
