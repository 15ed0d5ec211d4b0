-- What refusals keep, and what settle alone changes.
use Rattle.std.proofs.Common.{◌≡◌, ℕ, Bool, true, false, cond, List, set, Some, None, Err, Option, Result, sym, refl, ap, ◌∙◌, subst}
use Rattle.std.proofs.lemmas.List.{get_or-set_other}
use Rattle.std.proofs.lemmas.Bool.{eqb-false}
use Rattle.store.specs.declared.Version.{Version}
use Rattle.service.specs.declared.refusals.Refusal.{Refusal}
use Rattle.service.specs.declared.calls.Call.{Call}
use Rattle.service.specs.declared.calls.Call.TheVariants.{Begin, Read, Write, Close, Certify, Commit, Abort, Settle}
use Rattle.service.specs.declared.calls.Answer.{Answer}
use Rattle.service.specs.declared.tools.Phase.TheVariants.{Committed, Failed}
use Rattle.service.specs.Refusals.{refusal, rejects}
use Rattle.service.specs.Entries.{settled_version}
use Rattle.service.specs.Service.{Seat, State, seat, version, entry, is, tool_of, rules, phased, reseat, next_versions, outcome, step}
use Rattle.service.proofs.Sound.{within}
use Rattle.history.specs.History.{kind, settles}
use Rattle.history.specs.Runs.{QueuesHold, RefusalsKeep, OnlySettleWrites}
use Rattle.history.proofs.Whole.{run_sound}

pub queues_hold : QueuesHold
queues_hold vs h s r = within s (run_sound vs h s r)

pub refusals_keep : RefusalsKeep
refusals_keep s c r s' d f = go (refusal (rules s c)) d
  where
    go : (o : Option Refusal) → outcome s (seat s (tool_of c)) c o ≡ (Err r, s') → s' ≡ s
    go None q =
        let e = ap (λ (p : Result Answer Refusal × State). p.0) q in
        cc
    go (Some n) q =
        let e : ◌≡◌ {A = Result Answer Refusal} (Err n) (Err r) = ap (λ (p : Result Answer Refusal × State). p.0) q in
        let m : n ≡ r = cc in
        let b : rejects n ≡ false = ap rejects m ∙ f in
        sym (ap (λ (p : Result Answer Refusal × State). p.1) q) ∙ rw b

-- an accepted call, over any seat
next_versions_kept : (s : State) (x : Seat) (c : Call) (i : ℕ) → settles i (kind c) ≡ false → version (next_versions s x c) i ≡ version s.versions i
next_versions_kept s x (Begin t) i h = refl
next_versions_kept s x (Read t j) i h = refl
next_versions_kept s x (Write t j v) i h = refl
next_versions_kept s x (Close t k) i h = refl
next_versions_kept s x (Certify t j) i h = refl
next_versions_kept s x (Commit t) i h = refl
next_versions_kept s x (Abort t) i h = refl
next_versions_kept s x (Settle t j) i h = go (is x.phase Committed)
  where
    new : Version
    new = settled_version (entry x j) x.stamp (version s.versions j)

    go : (b : Bool) → version (cond b (set s.versions j new) s.versions) i ≡ version s.versions i
    go true = get_or-set_other s.versions j i new (record { value = 0; twrite = 0; tread = 0 }) (eqb-false i j h)
    go false = refl

settles_none : (s : State) (x : Seat) (c : Call) → ((i : ℕ) → settles i (kind c) ≡ false) → next_versions s x c ≡ s.versions
settles_none s x (Begin t) h = refl
settles_none s x (Read t i) h = refl
settles_none s x (Write t i v) h = refl
settles_none s x (Close t k) h = refl
settles_none s x (Certify t i) h = refl
settles_none s x (Commit t) h = refl
settles_none s x (Abort t) h = refl
settles_none s x (Settle t i) h = absurd (eqb-false i i (h i) refl)

-- what holds of the versions as they are and after an accepted call holds after any
versions_after : (s : State) (c : Call) (P : List Version → Type 0) → P s.versions → P (next_versions s (seat s (tool_of c)) c) → P (step s c).1.versions
versions_after s c P same new = go (refusal (rules s c))
  where
    kept : (b : Bool) → P (cond b (reseat s (tool_of c) (phased (seat s (tool_of c)) Failed)) s).versions
    kept true = same
    kept false = same

    go : (o : Option Refusal) → P (outcome s (seat s (tool_of c)) c o).1.versions
    go None = new
    go (Some r) = kept (rejects r)

pub only_settle_writes : OnlySettleWrites
only_settle_writes s c a s' d = (
  λ h. subst (λ (p : Result Answer Refusal × State). p.1.versions ≡ s.versions) d
      (versions_after s c (λ vs. vs ≡ s.versions) refl (settles_none s (seat s (tool_of c)) c h)),
  λ i h. subst (λ (p : Result Answer Refusal × State). version p.1.versions i ≡ version s.versions i) d
      (versions_after s c (λ vs. version vs i ≡ version s.versions i) refl (next_versions_kept s (seat s (tool_of c)) c i h)),
)
