-- A changed version is put, and no other.
use Rattle.std.proofs.Common.{◌≡◌, ℕ, ◌<◌, Bool, true, false, not, ◌&&◌, List, length, set, None, Option, eqb, sym, refl, ap, ◌∙◌}
use Rattle.std.specs.Bool.{then_some}
use Rattle.std.proofs.lemmas.List.{set-get_or, get_or-set_same}
use Rattle.std.proofs.lemmas.Bool.{false≢true, and_parts, and_from, eqb-true, eq-eqb, not-false}
use Rattle.store.specs.declared.Version.{Version}
use Rattle.service.specs.declared.desks.Change.{Change}
use Rattle.service.specs.Service.{version}
use Rattle.service.specs.Desks.{changed}

abbrev same : Version → Version → Bool
same v w = eqb v.value w.value && (eqb v.twrite w.twrite && eqb v.tread w.tread)

same_version : (v w : Version) → same v w ≡ true → v ≡ w
same_version v w s =
    let a = and_parts _ _ s in
    let b = and_parts _ _ a.1 in
    let of : ℕ → ℕ → ℕ → Version = λ x y z. record { value = x; twrite = y; tread = z } in
    ap (λ (n : ℕ). of n v.twrite v.tread) (eqb-true _ _ a.0) ∙ (ap (λ (n : ℕ). of w.value n v.tread) (eqb-true _ _ b.0) ∙ ap (λ (n : ℕ). of w.value w.twrite n) (eqb-true _ _ b.1))

same_from : (v w : Version) → v ≡ w → same v w ≡ true
same_from v w e =
    and_from _ _ (eq-eqb _ _ (ap (λ (x : Version). x.value) e)) (and_from _ _ (eq-eqb _ _ (ap (λ (x : Version). x.twrite) e)) (eq-eqb _ _ (ap (λ (x : Version). x.tread) e)))

-- item i had the version before, and gets the version after if it is another
module _ (vs : List Version) (i : ℕ) (before after : Version) (lt : i < length vs) (had : version vs i ≡ before) where
  abbrev pub put_if : Bool → Option Change
  put_if b = then_some b (record { item = i; version = after })

  pub puts_it : (b : Bool) → b ≡ not (same after before) → changed (put_if b) vs ≡ set vs i after
  puts_it true e = refl
  puts_it false e =
      sym (set-get_or vs i (record { value = 0; twrite = 0; tread = 0 }))
      ∙ ap (set vs i) (had ∙ sym (same_version after before (not-false _ (sym e))))

  pub puts_none : (b : Bool) → b ≡ not (same after before) → changed (put_if b) vs ≡ vs → put_if b ≡ None
  puts_none false e q = refl
  puts_none true e q =
      let is : after ≡ before = sym (get_or-set_same vs i after (record { value = 0; twrite = 0; tread = 0 }) lt) ∙ ap (λ (us : List Version). version us i) q ∙ had in
      absurd (false≢true (sym (e ∙ ap not (same_from after before is))))
