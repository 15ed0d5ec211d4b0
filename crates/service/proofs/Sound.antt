-- Every state that start and the calls reach is sound.
use Rattle.std.proofs.Common.{◌≡◌, ℕ, ◌+◌, ◌/◌, ◌%◌, ◌<◌, ◌≤◌, Bool, true, false, cond, not, ◌&&◌, ◌||◌, leb, ◌⊎◌, List, [], ◌∷◌, length, get_or, set, Some, None, Option, sym, refl, ap, ◌∙◌, subst, inl, inr, arith, length-set}
use lib.ListN.{get_or-replicate}
use Rattle.std.proofs.lemmas.Bool.{both_ways, not-false, or_cases}
use Rattle.store.specs.declared.Version.{Version}
use Rattle.queue.specs.Tokens.{Tells, place, remove, has, ascending}
use Rattle.queue.proofs.Contents.{length_place, length_remove, has_placed, has_new, has_left}
use Rattle.queue.proofs.Order.{place_ascending, remove_ascending}
use Rattle.service.specs.declared.refusals.Refusal.{Refusal}
use Rattle.service.specs.declared.calls.Call.{Call}
use Rattle.service.specs.declared.calls.Call.TheVariants.{Begin, Read, Write, Close, Certify, Commit, Abort, Settle}
use Rattle.service.specs.declared.tools.Entry.{Entry}
use Rattle.service.specs.declared.tools.Phase.{Phase}
use Rattle.service.specs.declared.tools.Phase.TheVariants.{Idle, Open, Closed, Failed, Committed, Aborting}
use Rattle.service.specs.declared.tools.Stand.TheVariants.{Settled}
use Rattle.service.specs.Tokens.{ReadToken, WriteToken}
use Rattle.service.specs.Refusals.{refusal, rejects}
use Rattle.service.specs.Entries.{is_held, find, enter, read_from, written_to, stood, any_held}
use Rattle.service.specs.Service.{Seat, State, read_tells, write_tells, fresh, seat, version, entry, absent, is, tool_of, counter, rules, phased, entered, rested, is_empty, unless_held, next, next_versions, next_reads, next_writes, next_seat, reseat, outcome, step, largest, start}
use Rattle.service.specs.Sound.{Stamped, is_read, is_written, held, total, SeatSound, Sound}
use Rattle.service.proofs.Phases.{is_true, stamped_at}
use Rattle.service.proofs.Entries.{found, entry_item, find_item, calm_entry}
use Rattle.service.proofs.Rules.{Clear, clear, tool_below, rejected}
use Rattle.service.proofs.Room.{held_calm, total_le, room_kept, room_more, room_less, room_left}
use Rattle.service.proofs.Seats.{SeatCases, seat_cases, closed_at, bare_seat, rested_seat, small_enter, touched_seat, closed_seat, phased_seat, unless_held_seat, requeued_seat, certified_seat, settled_seat}

pub at_start : (vs : List Version) (t : ℕ) → t < 16 → seat (start vs) t ≡ fresh (largest vs / 16)
at_start vs t h = get_or-replicate 16 t (fresh (largest vs / 16)) (fresh 0) h

pub sound_start : (vs : List Version) → Sound (start vs)
sound_start vs = record {
  sixteen = refl;
  seats = λ t h. subst (SeatSound [] [] t) (sym (at_start vs t h)) (bare_seat [] [] t (fresh (largest vs / 16)) (omega arith) (λ l. absurd l) refl);
  reads = omega arith;
  writes = omega arith;
  reads_ordered = refl;
  writes_ordered = refl;
}

-- one queue under certification and settlement: a token goes in or out only where the entry asks for it
module _ {A : Type 0} (k : Tells A) (q : List A) where
  length_grown : (b : Bool) (x : A) → length (cond b (place k x q) q) ≤ length q + cond b 1 0
  length_grown true x = let a = length_place k x q in omega arith
  length_grown false x = omega arith

  has_grown : (b : Bool) (x : A) (j n : ℕ) → has k j n q ≡ true → has k j n (cond b (place k x q) q) ≡ true
  has_grown true x j n h = has_placed k j n x q h
  has_grown false x j n h = h

  new_in : (b : Bool) (x : A) → b ≡ true → has k (k.item x) (k.stamp x) (cond b (place k x q) q) ≡ true
  new_in true x h = has_new k x q
  new_in false x h = absurd (both_ways false refl h)

  ordered_grown : (b : Bool) (x : A) → ascending k q ≡ true → ascending k (cond b (place k x q) q) ≡ true
  ordered_grown true x h = place_ascending k x q h
  ordered_grown false x h = h

  length_shrunk : (b : Bool) (i s : ℕ) → (b ≡ true → has k i s q ≡ true) → length (cond b (remove k i s q) q) + cond b 1 0 ≡ length q
  length_shrunk true i s h = let a = length_remove k i s q (h refl) in omega arith
  length_shrunk false i s h = omega arith

  has_shrunk : (b : Bool) (i s j n : ℕ) → (j ≡ i → n ≡ s → ⊥) → has k j n q ≡ true → has k j n (cond b (remove k i s q) q) ≡ true
  has_shrunk true i s j n ne h = has_left k j n i s q ne ∙ h
  has_shrunk false i s j n ne h = h

  ordered_shrunk : (b : Bool) (i s : ℕ) → ascending k q ≡ true → ascending k (cond b (remove k i s q) q) ≡ true
  ordered_shrunk true i s h = remove_ascending k i s q h
  ordered_shrunk false i s h = h

-- an entry without a token: no queue is full
pub roomy : (s : State) (t i : ℕ) (e : Entry) → Sound s → t < 16 → find i (seat s t).entries ≡ Some e → is_held e.stand ≡ false → (length s.reads < 128) × (length s.writes < 128)
roomy s t i e k lt fd nh = (
  room_left is_read s.seats t lt' (length s.reads) k.reads sz k.sixteen i e fd nh,
  room_left is_written s.seats t lt' (length s.writes) k.writes sz k.sixteen i e fd nh,
)
  where
    lt' : t < length s.seats
    lt' = let a = k.sixteen in omega arith

    sz : (u : ℕ) → u < length s.seats → length (seat s u).entries ≤ 8
    sz u h = (k.seats u (let a = k.sixteen in omega arith)).size

pub within : (s : State) → Sound s → (length s.reads ≤ 128) × (length s.writes ≤ 128)
within s k = (le is_read (length s.reads) k.reads, le is_written (length s.writes) k.writes)
  where
    le : (f : Entry → Bool) (n : ℕ) → n ≤ total f s.seats → n ≤ 128
    le f n h =
        let a = total_le f s.seats (λ u l. (k.seats u (let a = k.sixteen in omega arith)).size) in
        let b = k.sixteen in
        omega arith

module _ (s : State) (k : Sound s) where
  module _ (t : ℕ) (lt : t < 16) where
    in_range : t < length s.seats
    in_range = let a = k.sixteen in omega arith

    mine : SeatSound s.reads s.writes t (seat s t)
    mine = k.seats t lt

    -- the seat of tool t and the queues are changed
    sound_put : (y : Seat) (vs : List Version) (rs : List ReadToken) (ws : List WriteToken)
        → SeatSound rs ws t y → ((u : ℕ) → u < 16 → (u ≡ t → ⊥) → SeatSound rs ws u (seat s u))
        → length rs ≤ total is_read (set s.seats t y) → length ws ≤ total is_written (set s.seats t y)
        → ascending read_tells rs ≡ true → ascending write_tells ws ≡ true
        → Sound (record { versions = vs; seats = set s.seats t y; reads = rs; writes = ws })
    sound_put y vs rs ws own others lr lw ar aw = record {
      sixteen = length-set s.seats t y ∙ k.sixteen;
      seats = λ u h. one u h (seat_cases s.seats t y in_range u);
      reads = lr;
      writes = lw;
      reads_ordered = ar;
      writes_ordered = aw;
    }
      where
        one : (u : ℕ) → u < 16 → SeatCases s.seats t y u → SeatSound rs ws u (get_or (set s.seats t y) u (fresh 0))
        one u h (inl (p, q)) = subst (SeatSound rs ws u) (sym q) (subst (λ (n : ℕ). SeatSound rs ws n y) (sym p) own)
        one u h (inr (p, q)) = subst (SeatSound rs ws u) (sym q) (others u h p)

    -- the seat alone is changed, and no entry gives up its token
    pub sound_seat : (y : Seat) → SeatSound s.reads s.writes t y → ((f : Entry → Bool) → held f (seat s t).entries ≤ held f y.entries) → Sound (reseat s t y)
    sound_seat y own le = sound_put y s.versions s.reads s.writes own (λ u h _. k.seats u h)
        (room_kept is_read s.seats t in_range (length s.reads) k.reads y (le is_read))
        (room_kept is_written s.seats t in_range (length s.writes) k.writes y (le is_written))
        k.reads_ordered k.writes_ordered

    -- before its close a transaction gives up nothing
    early : (y : Seat) → ((seat s t).phase ≡ Idle) ⊎ ((seat s t).phase ≡ Open) → (f : Entry → Bool) → held f (seat s t).entries ≤ held f y.entries
    early y p f = let a = held_calm f (seat s t).entries (mine.calm p) in omega arith

    pub sound_begin : (seat s t).phase ≡ Idle → Sound (next s (seat s t) (Begin t))
    sound_begin h = sound_seat y (bare_seat s.reads s.writes t y (omega arith) (λ l. absurd l) refl) (early y (inl h))
      where
        y : Seat
        y = next_seat s (seat s t) (Begin t)

    sound_touch : (seat s t).phase ≡ Open → (i : ℕ) (d : Entry) → d.item ≡ i → is_held d.stand ≡ false → (absent (seat s t) i && leb 8 (length (seat s t).entries)) ≡ false
        → Sound (reseat s t (entered (seat s t) (enter d (seat s t).entries)))
    sound_touch op i d at nh h = sound_seat (entered (seat s t) (enter d (seat s t).entries))
        (touched_seat s.reads s.writes t (seat s t) mine op d nh (small_enter s.reads s.writes t (seat s t) mine i d at h))
        (early (entered (seat s t) (enter d (seat s t).entries)) (inr op))

    -- a close under any counter
    pub sound_close : (seat s t).phase ≡ Open → (n : ℕ) → Sound (reseat s t (closed_at (seat s t) t n))
    sound_close op n = sound_seat (closed_at (seat s t) t n) (closed_seat s.reads s.writes t (seat s t) mine op lt n) (λ f. omega arith)

    pub sound_phase : (p : Phase) → Stamped (seat s t).phase → Stamped p → Sound (reseat s t (phased (seat s t) p))
    sound_phase p l m = sound_seat (phased (seat s t) p) (phased_seat s.reads s.writes t (seat s t) mine p l m) (λ f. omega arith)

    sound_commit : (seat s t).phase ≡ Closed → Sound (next s (seat s t) (Commit t))
    sound_commit cl = go (seat s t).entries refl
      where
        go : (es : List Entry) → (seat s t).entries ≡ es → Sound (reseat s t (cond (is_empty es) (rested (seat s t)) (phased (seat s t) Committed)))
        go [] p = sound_seat (rested (seat s t)) (rested_seat s.reads s.writes t (seat s t)) (λ f. let a : held f (seat s t).entries ≡ 0 = ap (held f) p in omega arith)
        go (e ∷ es) p = sound_phase Committed (stamped_at (seat s t).phase Closed cl tt) tt

    sound_abort : (((seat s t).phase ≡ Open) ⊎ Stamped (seat s t).phase) → Sound (next s (seat s t) (Abort t))
    sound_abort h = go (any_held (seat s t).entries) refl h
      where
        go : (b : Bool) → any_held (seat s t).entries ≡ b → ((seat s t).phase ≡ Open) ⊎ Stamped (seat s t).phase
            → Sound (reseat s t (cond b (phased (seat s t) Aborting) (rested (phased (seat s t) Aborting))))
        go true q (inl op) = absurd (both_ways (any_held (seat s t).entries) (mine.calm (inr op)) q)
        go true q (inr l) = sound_phase Aborting l tt
        go false q r = sound_seat (rested (phased (seat s t) Aborting)) (rested_seat s.reads s.writes t (phased (seat s t) Aborting))
            (λ f. let a = held_calm f (seat s t).entries q in omega arith)

    -- the entry of item i, where there is one
    module _ (i : ℕ) (fd : find i (seat s t).entries ≡ Some (entry (seat s t) i)) (l : Stamped (seat s t).phase) where
      abbrev e : Entry
      e = entry (seat s t) i

      at : (entry (seat s t) i).item ≡ i
      at = find_item i (entry (seat s t) i) (seat s t).entries fd

      pub sound_certify : is_held (entry (seat s t) i).stand ≡ false → Sound (next s (seat s t) (Certify t i))
      sound_certify nh = sound_put (next_seat s (seat s t) (Certify t i)) s.versions (next_reads s (seat s t) (Certify t i)) (next_writes s (seat s t) (Certify t i))
          (certified_seat s.reads s.writes t (seat s t) mine i e fd l (next_reads s (seat s t) (Certify t i)) (next_writes s (seat s t) (Certify t i))
          (λ j. grow_r j (seat s t).stamp) (λ j. grow_w j (seat s t).stamp)
          (new_in read_tells s.reads (is_read e) rt) (new_in write_tells s.writes (is_written e) wt))
          (λ u h _. requeued_seat s.reads s.writes u (seat s u) (k.seats u h) (next_reads s (seat s t) (Certify t i)) (next_writes s (seat s t) (Certify t i))
          (λ j _. grow_r j (seat s u).stamp) (λ j _. grow_w j (seat s u).stamp))
          (let a = length_grown read_tells s.reads (is_read e) rt in
          let b = room_more is_read s.seats t in_range (length s.reads) k.reads (next_seat s (seat s t) (Certify t i)) i e at refl fd nh refl in omega arith)
          (let a = length_grown write_tells s.writes (is_written e) wt in
          let b = room_more is_written s.seats t in_range (length s.writes) k.writes (next_seat s (seat s t) (Certify t i)) i e at refl fd nh refl in omega arith)
          (ordered_grown read_tells s.reads (is_read e) rt k.reads_ordered) (ordered_grown write_tells s.writes (is_written e) wt k.writes_ordered)
        where
          rt : ReadToken
          rt = record { tool = t; item = i; stamp = (seat s t).stamp; value = tt }

          wt : WriteToken
          wt = record { tool = t; item = i; stamp = (seat s t).stamp; value = e.value }

          grow_r : (j n : ℕ) → has read_tells j n s.reads ≡ true → has read_tells j n (next_reads s (seat s t) (Certify t i)) ≡ true
          grow_r = has_grown read_tells s.reads (is_read e) rt

          grow_w : (j n : ℕ) → has write_tells j n s.writes ≡ true → has write_tells j n (next_writes s (seat s t) (Certify t i)) ≡ true
          grow_w = has_grown write_tells s.writes (is_written e) wt

      sound_settle : is_held (entry (seat s t) i).stand ≡ true → Sound (next s (seat s t) (Settle t i))
      sound_settle hd = sound_put (next_seat s (seat s t) (Settle t i)) (next_versions s (seat s t) (Settle t i)) rs ws
          (unless_held_seat rs ws t after (settled_seat s.reads s.writes t (seat s t) mine i e fd l rs ws
          (λ j ne. keep_r j (seat s t).stamp (λ p _. ne p)) (λ j ne. keep_w j (seat s t).stamp (λ p _. ne p))))
          (λ u h n. requeued_seat s.reads s.writes u (seat s u) (k.seats u h) rs ws
          (λ j m. keep_r j (seat s u).stamp (λ _ q. other u n m q)) (λ j m. keep_w j (seat s u).stamp (λ _ q. other u n m q)))
          (room_less is_read s.seats t in_range (length s.reads) k.reads (unless_held after) i e (length rs) at (same is_read (any_held after.entries) refl) fd hd
          (length_shrunk read_tells s.reads (is_read e) i (seat s t).stamp (mine.read i e fd hd)))
          (room_less is_written s.seats t in_range (length s.writes) k.writes (unless_held after) i e (length ws) at (same is_written (any_held after.entries) refl) fd hd
          (length_shrunk write_tells s.writes (is_written e) i (seat s t).stamp (mine.write i e fd hd)))
          (ordered_shrunk read_tells s.reads (is_read e) i (seat s t).stamp k.reads_ordered) (ordered_shrunk write_tells s.writes (is_written e) i (seat s t).stamp k.writes_ordered)
        where
          after : Seat
          after = entered (seat s t) (enter (stood e Settled) (seat s t).entries)

          rs : List ReadToken
          rs = next_reads s (seat s t) (Settle t i)

          ws : List WriteToken
          ws = next_writes s (seat s t) (Settle t i)

          same : (f : Entry → Bool) (b : Bool) → any_held after.entries ≡ b → held f (cond b after (rested after)).entries ≡ held f after.entries
          same f true h = refl
          same f false h = sym (held_calm f after.entries h)

          -- stamps of different tools differ
          other : (u : ℕ) → (u ≡ t → ⊥) → (seat s u).stamp % 16 ≡ u → (seat s u).stamp ≡ (seat s t).stamp → ⊥
          other u n m q = n (let a = mine.stamp l in omega arith)

          keep_r : (j n : ℕ) → (j ≡ i → n ≡ (seat s t).stamp → ⊥) → has read_tells j n s.reads ≡ true → has read_tells j n rs ≡ true
          keep_r j n = has_shrunk read_tells s.reads (is_read e) i (seat s t).stamp j n

          keep_w : (j n : ℕ) → (j ≡ i → n ≡ (seat s t).stamp → ⊥) → has write_tells j n s.writes ≡ true → has write_tells j n ws ≡ true
          keep_w j n = has_shrunk write_tells s.writes (is_written e) i (seat s t).stamp j n

  in_phase : (t : ℕ) (p : Phase) → not (is (seat s t).phase p) ≡ false → (seat s t).phase ≡ p
  in_phase t p h = is_true (seat s t).phase p (not-false (is (seat s t).phase p) h)

  pub sound_next : (c : Call) → Clear (rules s c) → Sound (next s (seat s (tool_of c)) c)
  sound_next (Begin t) r = sound_begin t (tool_below t r.0) (in_phase t Idle r.1.0)
  sound_next (Read t i) r = go (absent (seat s t) i) refl
    where
      go : (b : Bool) → absent (seat s t) i ≡ b → Sound (reseat s t (entered (seat s t) (cond b (enter (read_from i (version s.versions i)) (seat s t).entries) (seat s t).entries)))
      go true q = sound_touch t (tool_below t r.0) (in_phase t Open r.1.0) i (read_from i (version s.versions i)) refl refl r.1.1.1.0
      go false q = sound_seat t (tool_below t r.0) (seat s t) (k.seats t (tool_below t r.0)) (λ f. omega arith)
  sound_next (Write t i v) r =
      let lt = tool_below t r.0 in
      let op = in_phase t Open r.1.0 in
      sound_touch t lt op i (written_to (entry (seat s t) i) v) (entry_item i (seat s t).entries)
      (calm_entry i (seat s t).entries ((k.seats t lt).calm (inr op))) r.1.1.1.0
  sound_next (Close t n) r = sound_close t (tool_below t r.0) (in_phase t Open r.1.0) (counter (seat s t) n)
  sound_next (Certify t i) r = sound_certify t (tool_below t r.0) i (found i (find i (seat s t).entries) r.1.1.0)
      (stamped_at (seat s t).phase Closed (in_phase t Closed r.1.0) tt) r.1.1.1.0
  sound_next (Commit t) r = sound_commit t (tool_below t r.0) (in_phase t Closed r.1.0)
  sound_next (Abort t) r = sound_abort t (tool_below t r.0) (go (or_cases (is (seat s t).phase Open) (is (seat s t).phase Closed || is (seat s t).phase Failed) (not-false (is (seat s t).phase Open || (is (seat s t).phase Closed || is (seat s t).phase Failed)) r.1.0)))
    where
      go : (is (seat s t).phase Open ≡ true) ⊎ ((is (seat s t).phase Closed || is (seat s t).phase Failed) ≡ true) → ((seat s t).phase ≡ Open) ⊎ Stamped (seat s t).phase
      go (inl h) = inl (is_true (seat s t).phase Open h)
      go (inr h) = inr (later (or_cases (is (seat s t).phase Closed) (is (seat s t).phase Failed) h))
        where
          later : (is (seat s t).phase Closed ≡ true) ⊎ (is (seat s t).phase Failed ≡ true) → Stamped (seat s t).phase
          later (inl q) = stamped_at (seat s t).phase Closed (is_true (seat s t).phase Closed q) tt
          later (inr q) = stamped_at (seat s t).phase Failed (is_true (seat s t).phase Failed q) tt
  sound_next (Settle t i) r = sound_settle t (tool_below t r.0) i (found i (find i (seat s t).entries) r.1.1.0)
      (go (or_cases (is (seat s t).phase Committed) (is (seat s t).phase Aborting) (not-false (is (seat s t).phase Committed || is (seat s t).phase Aborting) r.1.0)))
      (not-false (is_held (entry (seat s t) i).stand) r.1.1.1.0)
    where
      go : (is (seat s t).phase Committed ≡ true) ⊎ (is (seat s t).phase Aborting ≡ true) → Stamped (seat s t).phase
      go (inl h) = stamped_at (seat s t).phase Committed (is_true (seat s t).phase Committed h) tt
      go (inr h) = stamped_at (seat s t).phase Aborting (is_true (seat s t).phase Aborting h) tt

pub sound_step : (s : State) (c : Call) → Sound s → Sound (step s c).1
sound_step s c k = go (refusal (rules s c)) refl
  where
    fail : (r : Refusal) (b : Bool) → refusal (rules s c) ≡ Some r → rejects r ≡ b → Sound (cond b (reseat s (tool_of c) (phased (seat s (tool_of c)) Failed)) s)
    fail r true h f =
        let q = rejected s c r h f in
        sound_phase s k (tool_of c) q.0 Failed (stamped_at (seat s (tool_of c)).phase Closed q.1 tt) tt
    fail r false h f = k

    go : (o : Option Refusal) → refusal (rules s c) ≡ o → Sound (outcome s (seat s (tool_of c)) c o).1
    go None h = sound_next s k c (clear (rules s c) h)
    go (Some r) h = fail r (rejects r) h refl
