-- What a lawful desk gives to the code.
use Rattle.std.proofs.Common.{◌≡◌, ℕ, ◌<◌, false, List, [], length, Some, Result, sym, ap, subst}
use mathlib.Core.Logic.{∥∥₁_elim, ∥∥₁_map}
use native.Mathlib.Bridge.{le_prop}
use Rattle.store.specs.declared.Version.{Version}
use Rattle.queue.specs.Queues.{tokens}
use Rattle.service.specs.declared.refusals.Refusal.{Refusal}
use Rattle.service.specs.declared.calls.Answer.{Answer}
use Rattle.service.specs.declared.calls.Call.{Call}
use Rattle.service.specs.declared.desks.Desk.{Desk}
use Rattle.service.specs.declared.tools.Entry.{Entry}
use Rattle.service.specs.Entries.{is_held, find}
use Rattle.service.specs.Service.{State, seat, step, start}
use Rattle.service.specs.Sound.{Sound}
use Rattle.service.specs.Desks.{state, Lawful}
use Rattle.service.proofs.Sound.{sound_start, sound_step, roomy}

-- the versions do not matter
sound_any : (us vs : List Version) (d : Desk) → Sound (state us d) → Sound (state vs d)
sound_any us vs d s = record {
  sixteen = s.sixteen;
  seats = s.seats;
  reads = s.reads;
  writes = s.writes;
  reads_ordered = s.reads_ordered;
  writes_ordered = s.writes_ordered;
}

module _ (d : Desk) (l : Lawful d) where
  -- an entry without a token leaves room for its tokens
  module _ (t i : ℕ) (e : Entry) (lt : t < 16) (f : find i (seat (state [] d) t).entries ≡ Some e) (n : is_held e.stand ≡ false) where
    pub reads_room : length (tokens d.reads) < 128
    reads_room = ∥∥₁_elim l le_prop (λ s. (roomy (state [] d) t i e s lt f n).0)

    pub writes_room : length (tokens d.writes) < 128
    writes_room = ∥∥₁_elim l le_prop (λ s. (roomy (state [] d) t i e s lt f n).1)

  -- and stays lawful over a call
  pub lawful_step : (vs us : List Version) (c : Call) (a : Result Answer Refusal) (d' : Desk) → step (state vs d) c ≡ (a, state us d') → Lawful d'
  lawful_step vs us c a d' h = ∥∥₁_map l (λ s.
      sound_any us [] d' (subst Sound (ap (λ (p : Result Answer Refusal × State). p.1) h) (sound_step (state vs d) c (sound_any [] vs d s))))

pub lawful_start : (vs : List Version) (d : Desk) → state vs d ≡ start vs → Lawful d
lawful_start vs d h = ∣ sound_any vs [] d (subst Sound (sym h) (sound_start vs)) ∣₁
