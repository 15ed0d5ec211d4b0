-- A run goes on by one call.
use Rattle.std.proofs.Common.{◌≡◌, ℕ, zero, suc, ◌+◌, ◌<◌, min, List, [], ◌∷◌, ◌++◌, length, get_or, take, drop, set, Result, sym, refl, ap, ◌∙◌, subst, arith}
use Rattle.std.proofs.lemmas.List.{take_more, take_more_set, drop-drop, drop-set-lt, length-take-le}
use Rattle.store.specs.declared.Version.{Version}
use Rattle.service.specs.declared.refusals.Refusal.{Refusal}
use Rattle.service.specs.declared.calls.Call.{Call}
use Rattle.service.specs.declared.calls.Answer.{Answer}
use Rattle.service.specs.Service.{State, Does}
use Rattle.history.specs.History.{History}
use Rattle.history.specs.Runs.{Run, called, onward}

onward_push : (cs : List Call) (os : List (Result Answer Refusal)) (c : Call) (o : Result Answer Refusal) (h : History) → length cs ≡ length os
    → onward (cs ++ c ∷ []) (os ++ o ∷ []) h ≡ (c, o) ∷ onward cs os h
onward_push [] [] c o h e = refl
onward_push [] (p ∷ os) c o h e = absurd (omega arith)
onward_push (d ∷ cs) [] c o h e = absurd (omega arith)
onward_push (d ∷ cs) (p ∷ os) c o h e = onward_push cs os c o ((d, p) ∷ h) (omega arith)

pub onward_short : (cs : List Call) (os : List (Result Answer Refusal)) (n : ℕ) (h : History) → n ≡ min (length cs) (length os) → onward (take n cs) (take n os) h ≡ onward cs os h
onward_short [] os zero h e = refl
onward_short [] os (suc n) h e = absurd (omega arith)
onward_short (c ∷ cs) [] zero h e = refl
onward_short (c ∷ cs) [] (suc n) h e = absurd (omega arith)
onward_short (c ∷ cs) (o ∷ os) zero h e = absurd (omega arith)
onward_short (c ∷ cs) (o ∷ os) (suc n) h e = onward_short cs os n ((c, o) ∷ h) (omega arith)

module _ (cs : List Call) (os : List (Result Answer Refusal)) (i : ℕ) (in-calls : i < length cs) (in-answers : i < length os) where
  pub one_more : (vs : List Version) (h : History) (s s' : State) (o : Result Answer Refusal) (d : Call) → Run vs (onward (take i cs) (take i os) h) s → Does s (get_or cs i d) o s'
      → Run vs (onward (take (i + 1) cs) (take (i + 1) (set os i o)) h) s'
  one_more vs h s s' o d r m =
      let a = take_more cs i d in-calls in
      let b = take_more_set os i o in-answers in
      let l : length (take i cs) ≡ length (take i os) = length-take-le i cs (omega arith) ∙ sym (length-take-le i os (omega arith)) in
      subst (λ (x : History). Run vs x s')
      (sym (ap (λ (x : List Call). onward x (take (i + 1) (set os i o)) h) a
      ∙ (ap (λ (x : List (Result Answer Refusal)). onward (take i cs ++ get_or cs i d ∷ []) x h) b ∙ onward_push (take i cs) (take i os) (get_or cs i d) o h l)))
      (called (get_or cs i d) o s' r m)

pub rest_stays : {X : Type 0} (xs ys : List X) (i : ℕ) (x : X) → drop i xs ≡ drop i ys → drop (i + 1) (set xs i x) ≡ drop (i + 1) ys
rest_stays xs ys i x h = drop-set-lt (i + 1) xs i x (omega arith) ∙ (sym (drop-drop 1 i xs) ∙ (ap (drop 1) h ∙ drop-drop 1 i ys))
