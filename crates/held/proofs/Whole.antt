-- A whole transaction certified or settled.
use Rattle.std.proofs.Common.{◌≡◌, ℕ, ◌+◌, ◌<◌, ◌≤◌, Bool, true, false, cond, List, [], ◌∷◌, ◌++◌, map, length, get_or, drop, Ok, Err, Result, sym, ap, ◌∙◌, subst}
use Rattle.std.proofs.lemmas.List.{drop_more, drop_all}
use Rattle.store.specs.declared.Version.{Version}
use Rattle.service.specs.declared.refusals.Refusal.{Refusal}
use Rattle.service.specs.declared.refusals.Refusal.TheVariants.{WrongState}
use Rattle.service.specs.declared.tools.Phase.TheVariants.{Closed as IsClosed}
use Rattle.service.specs.declared.calls.Call.{Call}
use Rattle.service.specs.declared.calls.Call.TheVariants.{Certify, Settle, Abort}
use Rattle.service.specs.declared.calls.Answer.{Answer}
use Rattle.service.specs.declared.services.Service.{Service}
use Rattle.service.specs.Service.{State, tool_of}
use Rattle.service.specs.Services.{state_of, Makes}
use Rattle.service.specs.Views.{is_under}
use Rattle.held.specs.declared.transactions.Closed.{Closed}
use Rattle.held.specs.declared.transactions.Grant.{Grant}
use Rattle.held.specs.declared.transactions.Uncertified.{Uncertified}
use Rattle.held.specs.declared.transactions.Uncertified.TheVariants.{Refused}
use Rattle.held.specs.Calls.{after, if_accepted, up_to_refusal, first_refusal, Made, none, more, MadeUpTo, up_to, Performs}
use Rattle.held.specs.Held.{settlements, settling, certifications, is_rejection, afterwards, granted, certifying, certifies_all}
use Rattle.held.proofs.Made.{Stepped, made_append, made_after, let_through, accepted_made, accepted_first, refused_made, refused_first}

module _ {S : Type 0} (versions : S → List Version) where
  -- the loops over the items: the calls that are left lead on to all of them

  abbrev pub SettlesOn : Service S → ℕ → List ℕ → ℕ → Service S → Type 0
  SettlesOn x t is k y = (z : Service S) → Made versions y (map (Settle t) (drop k is)) z → Made versions x (map (Settle t) is) z

  pub settles_more : (x y w : Service S) (t : ℕ) (is : List ℕ) (k : ℕ) (a : Result Answer Refusal) → k < length is → Makes versions y (Settle t (get_or is k 0)) a w → SettlesOn x t is k y → SettlesOn x t is (k + 1) w
  settles_more x y w t is k a h m on z ms =
      on z (subst (λ (l : List ℕ). Made versions y (map (Settle t) l) z) (sym (drop_more is k 0 h)) (more (Settle t (get_or is k 0)) a m ms))

  pub settles_all_made : (x y : Service S) (t : ℕ) (is : List ℕ) (k : ℕ) → length is ≤ k → SettlesOn x t is k y → Made versions x (map (Settle t) is) y
  settles_all_made x y t is k h on = on y (subst (λ (l : List ℕ). Made versions y (map (Settle t) l) y) (sym (drop_all k is h)) none)

  pub record CertifiesOn (x : Service S) (t : ℕ) (is : List ℕ) (k : ℕ) (y : Service S) : Type 0 where
    pub made : (z : Service S) → Made versions y (up_to_refusal (state_of versions y) (map (Certify t) (drop k is))) z → Made versions x (up_to_refusal (state_of versions x) (map (Certify t) is)) z
    pub first : first_refusal (state_of versions x) (map (Certify t) is) ≡ first_refusal (state_of versions y) (map (Certify t) (drop k is))

  module _ (x y : Service S) (t : ℕ) (is : List ℕ) (k : ℕ) (on : CertifiesOn x t is k y) where
    item : ℕ
    item = get_or is k 0

    rest : List Call
    rest = map (Certify t) (drop (k + 1) is)

    pub certifies_more : (w : Service S) (a : Answer) → k < length is → Makes versions y (Certify t (get_or is k 0)) (Ok a) w → CertifiesOn x t is (k + 1) w
    unfolding item rest
    certifies_more w a h m = record {
      made = λ z ms. on.made z
          (subst (λ (l : List ℕ). Made versions y (up_to_refusal (state_of versions y) (map (Certify t) l)) z) (sym (drop_more is k 0 h)) (accepted_made versions y w (Certify t item) rest a m z ms));
      first = on.first
          ∙ (ap (λ (l : List ℕ). first_refusal (state_of versions y) (map (Certify t) l)) (drop_more is k 0 h) ∙ accepted_first versions y w (Certify t item) rest a m);
    }

    pub certifies_not : (w : Service S) (r : Refusal) → k < length is → Makes versions y (Certify t (get_or is k 0)) (Err r) w → MadeUpTo versions x (map (Certify t) is) (Err r) w
    unfolding item rest
    certifies_not w r h m =
        up_to
        (on.made w
        (subst (λ (l : List ℕ). Made versions y (up_to_refusal (state_of versions y) (map (Certify t) l)) w) (sym (drop_more is k 0 h)) (refused_made versions y w (Certify t item) rest r m)))
        (sym (on.first ∙ (ap (λ (l : List ℕ). first_refusal (state_of versions y) (map (Certify t) l)) (drop_more is k 0 h) ∙ refused_first versions y w (Certify t item) rest r m)))

    pub certifies_all_made : length is ≤ k → MadeUpTo versions x (map (Certify t) is) (Ok tt) y
    certifies_all_made h =
        up_to (on.made y (subst (λ (l : List ℕ). Made versions y (up_to_refusal (state_of versions y) (map (Certify t) l)) y) (sym (drop_all k is h)) none))
        (sym (on.first ∙ ap (λ (l : List ℕ). first_refusal (state_of versions y) (map (Certify t) l)) (drop_all k is h)))

  -- a call and the settlement of what holds a token then

  pub settled : (x y z : Service S) (c : Call) (a : Answer) (t : ℕ) → Makes versions x c (Ok a) y → t ≡ tool_of c → Made versions y (settlements t (state_of versions y)) z
      → Made versions x (settling c (state_of versions x)) z
  settled x y z c a t m e ms =
      subst (λ (p : Stepped). Made versions x (c ∷ if_accepted p.0 (settlements (tool_of c) p.1)) z) (sym m.does)
      (more c (Ok a) m (subst (λ (u : ℕ). Made versions y (settlements u (state_of versions y)) z) e ms))

  pub not_settled : (x y : Service S) (c : Call) (r : Refusal) → Makes versions x c (Err r) y → Made versions x (settling c (state_of versions x)) y
  not_settled x y c r m = subst (λ (p : Stepped). Made versions x (c ∷ if_accepted p.0 (settlements (tool_of c) p.1)) y) (sym m.does) (more c (Err r) m none)

  -- certified up to the first refusal, and what comes after it

  module _ (x y : Service S) (k : Closed) (is-closed : is_under IsClosed (state_of versions x) k.tool k.stamp ≡ true)
      (o : Result (Unit {0}) Refusal) (m : MadeUpTo versions x (certifications k.tool (state_of versions x)) o y) (r : Result Grant Uncertified) (f : r ≡ granted k o) where
    certified : (z : Service S) → Made versions y (afterwards k.tool o (state_of versions y)) z → Performs versions x (certifies_all k) r z
    certified z n = go m
      where
        go : MadeUpTo versions x (certifications k.tool (state_of versions x)) o y → Performs versions x (certifies_all k) r z
        go (up_to ms e) =
            let up = up_to_refusal (state_of versions x) (certifications k.tool (state_of versions x)) in
            let_through versions x (λ s. is_under IsClosed s k.tool k.stamp) (Err (Refused WrongState k)) (certifying k) z r is-closed
            (subst (λ (v : Result (Unit {0}) Refusal). Made versions x (up ++ afterwards k.tool v (after (state_of versions x) up)) z) e
            (subst (λ (s : State). Made versions x (up ++ afterwards k.tool o s) z) (sym (made_after versions ms)) (made_append versions ms n)))
            (f ∙ ap (granted k) e)

    pub undone : is_rejection o ≡ true → (z : Service S) → Made versions y (settling (Abort k.tool) (state_of versions y)) z → Performs versions x (certifies_all k) r z
    undone h z n = certified z (subst (λ (b : Bool). Made versions y (cond b (settling (Abort k.tool) (state_of versions y)) []) z) (sym h) n)

    pub left_so : is_rejection o ≡ false → Performs versions x (certifies_all k) r y
    left_so h = certified y (subst (λ (b : Bool). Made versions y (cond b (settling (Abort k.tool) (state_of versions y)) []) y) (sym h) none)
