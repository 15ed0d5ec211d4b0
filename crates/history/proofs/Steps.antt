-- Each accepted call keeps the cards' invariant and its link to the history.
use Rattle.std.proofs.Common.{◌≡◌, ℕ, ◌+◌, ◌*◌, ◌<◌, Bool, true, false, cond, not, ◌||◌, eqb, leb, ◌⊎◌, List, ◌∷◌, length, Some, sym, refl, ap, ◌∙◌, subst, inl, inr, arith}
use Rattle.std.proofs.lemmas.Bool.{both_ways, eq-eqb, ne_eqb, leb-false, not-false, or_cases}
use Rattle.store.specs.declared.Version.{Version}
use Rattle.service.specs.declared.calls.Call.{Call}
use Rattle.service.specs.declared.calls.Call.TheVariants.{Begin, Read, Write, Close, Certify, Commit, Abort, Settle}
use Rattle.service.specs.declared.calls.Answer.{Answer}
use Rattle.service.specs.declared.calls.Answer.TheVariants.{Done, Value, Stamp}
use Rattle.service.specs.declared.tools.Entry.{Entry}
use Rattle.service.specs.declared.tools.Phase.{Phase}
use Rattle.service.specs.declared.tools.Phase.TheVariants.{Idle, Open, Closed, Failed, Committed, Aborting}
use Rattle.service.specs.declared.tools.Stand.TheVariants.{Held, Settled}
use Rattle.service.specs.Entries.{is_held, find, enter, read_from, written_to, stood, any_held, all_held}
use Rattle.service.specs.Service.{Seat, State, seat, version, entry, absent, is, tool_of, counter, rules, answer, phased, entered, rested, is_empty, next, next_seat, reseat}
use Rattle.service.specs.Sound.{Stamped, Sound}
use Rattle.service.proofs.Phases.{clash, is_true, stamped_at}
use Rattle.service.proofs.Entries.{found, missing, find_item, enter_cases}
use Rattle.service.proofs.Rules.{Clear, tool_below}
use Rattle.service.proofs.Seats.{closed_at}
use Rattle.history.specs.History.{Accepted, Other, kind, among, settles}
use Rattle.history.specs.Transactions.{Transaction, add, join, is_committed, stamp_of}
use Rattle.history.proofs.Cards.{Ghost, Core}
use Rattle.history.proofs.Moves.{rebase, rebase_other, begin_core, abort_core, close_core, write_core, read_new, read_old, seen_now}
use Rattle.history.proofs.Certify.{certify_core}
use Rattle.history.proofs.Commit.{dealt, commit_core}
use Rattle.history.proofs.Settle.{not_settling, settle_core}
use Rattle.history.proofs.Tied.{Tied, Silent, silent_neutral, tied_stand, tied_read, tied_new, tied_write}
use Rattle.history.proofs.Transactions.{extended}
use Rattle.history.proofs.Link.{Link, Linked, Current, link_join, link_commit, link_begin}

neither : (p : Phase) → is p Open ≡ false → is p Closed ≡ false → (p ≡ Open) ⊎ (p ≡ Closed) → ⊥
neither p a b (inl q) = clash p p Open refl q a
neither p a b (inr q) = clash p p Closed refl q b

module _ (vs : List Version) (s : State) (g : Ghost) (ts : List Transaction) (k : Core vs s g) (l : Link s g ts) (z : Sound s) where
  abbrev pub Kept : State → List Transaction → Type 0
  Kept s' ts' = (g' : Ghost) × Core vs s' g' × Link s' g' ts'

  module _ (t : ℕ) (lt : t < 16) where
    current : (p : Phase) → (seat s t).phase ≡ p → is p Idle ≡ false → Current (seat s t) t ts (g.base t)
    current p h n = l.live t lt (λ i. clash (seat s t).phase p Idle h i n)

    begin_kept : (seat s t).phase ≡ Idle → Kept (next s (seat s t) (Begin t)) (add (Begin t, Done) ts)
    begin_kept h = (g, begin_core vs s g k z t lt h, link_begin s g ts l z t lt (next_seat s (seat s t) (Begin t)) refl refl)

    module _ (op : (seat s t).phase ≡ Open) where
      cur : Current (seat s t) t ts (g.base t)
      cur = current Open op refl

      uncommitted : is_committed cur.0 ≡ true → ⊥
      uncommitted h = both_ways (is_committed cur.0) (cur.2.fresh op) h

      -- after a read or a write the tool is still open
      opened : (e : Accepted) (es : List Entry) (b : ℕ → ℕ) → Tied (e ∷ cur.0.calls) es b → ((i : ℕ) → settles i (kind e.0) ≡ false) → is_committed (extended e cur.0) ≡ is_committed cur.0
          → Linked (entered (seat s t) es) (extended e cur.0) b
      opened e es b td st cm = record {
        tied = td;
        stamp = λ v. absurd (subst Stamped op v);
        fresh = λ _. cm ∙ cur.2.fresh op;
        quiet = λ _ i. rw (st i) (cur.2.quiet (inl op) i);
        unsettled = λ q. absurd (clash (seat s t).phase Open Committed op q refl);
        done = λ q. absurd (clash (seat s t).phase Open Committed op q refl);
      }

      write_kept : (i v : ℕ) → i < length vs → Kept (next s (seat s t) (Write t i v)) (add (Write t i v, Done) ts)
      write_kept i v il = (
        g,
        write_core vs s g k z t lt op i v il,
        link_join s (next s (seat s t) (Write t i v)) g g.base ts l z (Write t i v, Done) cur.0 (next_seat s (seat s t) (Write t i v)) cur.1 lt refl (λ u n. refl)
            (λ _. opened (Write t i v, Done) (enter (written_to (entry (seat s t) i) v) (seat s t).entries) (g.base t)
            (tied_write cur.0.calls (seat s t).entries (g.base t) cur.2.tied t i v Done) (λ _. refl) refl)
            (λ h. absurd (uncommitted h)) (λ h. h),
      )

      abbrev read_entries : ℕ → Bool → List Entry
      read_entries i b = cond b (enter (read_from i (version s.versions i)) (seat s t).entries) (seat s t).entries

      abbrev read_answer : ℕ → Bool → Answer
      read_answer i b = Value (cond b (version s.versions i).value (entry (seat s t) i).value)

      read_kept : (i : ℕ) → i < length vs → (b : Bool) → absent (seat s t) i ≡ b → Kept (reseat s t (entered (seat s t) (read_entries i b))) (join (Read t i, read_answer i b) ts)
      read_kept i il true ab = (
        seen_now vs s g k z t lt op i,
        read_new vs s g k z t lt op i il,
        link_join s (reseat s t (entered (seat s t) (read_entries i true))) g b' ts l z (Read t i, read_answer i true) cur.0
            (entered (seat s t) (read_entries i true)) cur.1 lt refl (λ u n. rebase_other g.base t i (version s.versions i).value u n)
            (λ _. opened (Read t i, read_answer i true) (read_entries i true) (b' t)
            (tied_new cur.0.calls (seat s t).entries (g.base t) (b' t) cur.2.tied t i (version s.versions i) (missing (find i (seat s t).entries) ab)
            (rw (eq-eqb t t refl, eq-eqb i i refl)) (λ j n. rw (eq-eqb t t refl, ne_eqb j i n)))
            (λ _. refl) refl)
            (λ h. absurd (uncommitted h)) (λ h. h),
      )
        where
          b' : ℕ → ℕ → ℕ
          b' = rebase g.base t i (version s.versions i).value
      read_kept i il false ab = (
        g,
        read_old vs s g k z t lt op,
        link_join s (reseat s t (entered (seat s t) (seat s t).entries)) g g.base ts l z (Read t i, read_answer i false) cur.0
            (entered (seat s t) (seat s t).entries) cur.1 lt refl (λ u n. refl)
            (λ _. opened (Read t i, read_answer i false) (seat s t).entries (g.base t)
            (tied_read cur.0.calls (seat s t).entries (g.base t) cur.2.tied t i (entry (seat s t) i) (found i (find i (seat s t).entries) ab)) (λ _. refl) refl)
            (λ h. absurd (uncommitted h)) (λ h. h),
      )

      -- any call that closes under a counter above the last
      close_kept : (c : Call) (n : ℕ) → tool_of c ≡ t → kind c ≡ Other → (seat s t).last < n → Kept (reseat s t (closed_at (seat s t) t n)) (join (c, Stamp (n * 16 + t)) ts)
      close_kept c n e kd more = (
        g,
        close_core vs s g k z t lt op n more,
        link_join s (reseat s t (closed_at (seat s t) t n)) g g.base ts l z (c, Stamp (n * 16 + t)) cur.0
            (closed_at (seat s t) t n) (rw e cur.1) (rw e lt) (rw e) (λ u n. refl)
            (λ _. record {
              tied = silent_neutral c (Stamp (n * 16 + t)) (subst Silent (sym kd) tt) cur.0.calls (seat s t).entries (g.base (tool_of c)) (rw e cur.2.tied);
              stamp = λ _. refl;
              fresh = λ q. absurd (clash Closed Closed Open refl q refl);
              quiet = λ _ i. rw kd (cur.2.quiet (inl op) i);
              unsettled = λ q. absurd (clash Closed Closed Committed refl q refl);
              done = λ q. absurd (clash Closed Closed Committed refl q refl);
            })
            (λ h. absurd (uncommitted h)) (λ h. rw kd at h),
      )

    certify_kept : (i : ℕ) → (seat s t).phase ≡ Closed → find i (seat s t).entries ≡ Some (entry (seat s t) i) → Core vs (next s (seat s t) (Certify t i)) g
        → Kept (next s (seat s t) (Certify t i)) (add (Certify t i, Done) ts)
    certify_kept i cl fd kc = (
      g,
      kc,
      link_join s (next s (seat s t) (Certify t i)) g g.base ts l z (Certify t i, Done) c.0 (next_seat s (seat s t) (Certify t i)) c.1 lt refl (λ u n. refl)
          (λ _. record {
            tied = tied_stand ((Certify t i, Done) ∷ c.0.calls) (seat s t).entries (g.base t)
                (silent_neutral (Certify t i) Done tt c.0.calls (seat s t).entries (g.base t) c.2.tied) i (entry (seat s t) i) fd Held;
            stamp = λ v. c.2.stamp v;
            fresh = λ q. absurd (clash (seat s t).phase Closed Open cl q refl);
            quiet = λ _ j. c.2.quiet (inr cl) j;
            unsettled = λ q. absurd (clash (seat s t).phase Closed Committed cl q refl);
            done = λ q. absurd (clash (seat s t).phase Closed Committed cl q refl);
          })
          (λ q. (q, refl, silent_neutral (Certify t i) Done tt)) (λ q. q),
    )
      where
        c : Current (seat s t) t ts (g.base t)
        c = current Closed cl refl

    commit_kept : (seat s t).phase ≡ Closed → all_held (seat s t).entries ≡ true → Kept (next s (seat s t) (Commit t)) (add (Commit t, Done) ts)
    commit_kept cl ah = (
      record { cards = dealt vs s g k z t lt cl ah ∷ g.cards; base = g.base },
      kc,
      link_commit s (next s (seat s t) (Commit t)) g g.base ts l z (Commit t, Done) c.0 (next_seat s (seat s t) (Commit t)) c.1 lt refl (λ u n. refl)
          (mine (is_empty (seat s t).entries))
          (dealt vs s g k z t lt cl ah) refl (sy, silent_neutral (Commit t) Done tt c.0.calls (seat s t).entries (g.base t) c.2.tied) sy kc.apart.0,
    )
      where
        c : Current (seat s t) t ts (g.base t)
        c = current Closed cl refl

        kc : Core vs (next s (seat s t) (Commit t)) (record { cards = dealt vs s g k z t lt cl ah ∷ g.cards; base = g.base })
        kc = commit_core vs s g k z t lt cl ah

        sy : stamp_of c.0 ≡ (seat s t).stamp
        sy = c.2.stamp (stamped_at (seat s t).phase Closed cl tt)

        mine : (b : Bool) → ((cond b (rested (seat s t)) (phased (seat s t) Committed)).phase ≡ Idle → ⊥)
            → Linked (cond b (rested (seat s t)) (phased (seat s t) Committed)) (extended (Commit t, Done) c.0) (g.base t)
        mine true n = absurd (n refl)
        mine false n = record {
          tied = silent_neutral (Commit t) Done tt c.0.calls (seat s t).entries (g.base t) c.2.tied;
          stamp = λ _. sy;
          fresh = λ q. absurd (clash Committed Committed Open refl q refl);
          quiet = λ q. absurd (neither Committed refl refl q);
          unsettled = λ _ i e f h. c.2.quiet (inr cl) i;
          done = λ _. refl;
        }

    abort_kept : (p : Phase) → (seat s t).phase ≡ p → is p Idle ≡ false → is p Committed ≡ false → (any_held (seat s t).entries ≡ true → Stamped p)
        → Kept (next s (seat s t) (Abort t)) (add (Abort t, Done) ts)
    abort_kept p h ni nc lv = (
      g,
      abort_core vs s g k z t lt p h nc lv,
      link_join s (next s (seat s t) (Abort t)) g g.base ts l z (Abort t, Done) c.0 (next_seat s (seat s t) (Abort t)) c.1 lt refl (λ u n. refl)
          (mine (any_held (seat s t).entries) refl)
          (λ q. (q, refl, silent_neutral (Abort t) Done tt)) (λ q. q),
    )
      where
        c : Current (seat s t) t ts (g.base t)
        c = current p h ni

        mine : (b : Bool) → any_held (seat s t).entries ≡ b → ((cond b (phased (seat s t) Aborting) (rested (phased (seat s t) Aborting))).phase ≡ Idle → ⊥)
            → Linked (cond b (phased (seat s t) Aborting) (rested (phased (seat s t) Aborting))) (extended (Abort t, Done) c.0) (g.base t)
        mine true q n = record {
          tied = silent_neutral (Abort t) Done tt c.0.calls (seat s t).entries (g.base t) c.2.tied;
          stamp = λ _. c.2.stamp (stamped_at (seat s t).phase p h (lv q));
          fresh = λ q. absurd (clash Aborting Aborting Open refl q refl);
          quiet = λ q. absurd (neither Aborting refl refl q);
          unsettled = λ q. absurd (clash Aborting Aborting Committed refl q refl);
          done = λ q. absurd (clash Aborting Aborting Committed refl q refl);
        }
        mine false q n = absurd (n refl)

    settle_kept : (i : ℕ) → ((seat s t).phase ≡ Committed) ⊎ ((seat s t).phase ≡ Aborting) → find i (seat s t).entries ≡ Some (entry (seat s t) i) → is_held (entry (seat s t) i).stand ≡ true
        → Kept (next s (seat s t) (Settle t i)) (add (Settle t i, Done) ts)
    settle_kept i pc fd hd = (
      g,
      settle_core vs s g k z t lt i fd hd pc,
      link_join s (next s (seat s t) (Settle t i)) g g.base ts l z (Settle t i, Done) c.0 (next_seat s (seat s t) (Settle t i)) c.1 lt refl (λ u n. refl)
          (mine (any_held after.entries))
          (λ q. (q, refl, silent_neutral (Settle t i) Done tt)) (λ q. q),
    )
      where
        after : Seat
        after = entered (seat s t) (enter (stood (entry (seat s t) i) Settled) (seat s t).entries)

        not_phase : (p : Phase) → is Committed p ≡ false → is Aborting p ≡ false → (seat s t).phase ≡ p → ⊥
        not_phase p = not_settling (seat s t).phase p pc

        c : Current (seat s t) t ts (g.base t)
        c = l.live t lt (not_phase Idle refl refl)

        early : ((seat s t).phase ≡ Open) ⊎ ((seat s t).phase ≡ Closed) → ⊥
        early (inl q) = not_phase Open refl refl q
        early (inr q) = not_phase Closed refl refl q

        still : (seat s t).phase ≡ Committed → (j : ℕ) (f : Entry) → is_held f.stand ≡ true
            → ((j ≡ i) × (stood (entry (seat s t) i) Settled ≡ f)) ⊎ ((j ≡ i → ⊥) × (find j (seat s t).entries ≡ Some f)) → (eqb j i || among (settles j) c.0.calls) ≡ false
        still ph j f h (inl (p, q)) = absurd (both_ways false refl (ap (λ (e : Entry). is_held e.stand) q ∙ h))
        still ph j f h (inr (n, q)) = rw (ne_eqb j i n) (c.2.unsettled ph j f q h)

        mine : (b : Bool) → ((cond b after (rested after)).phase ≡ Idle → ⊥) → Linked (cond b after (rested after)) (extended (Settle t i, Done) c.0) (g.base t)
        mine true n = record {
          tied = tied_stand ((Settle t i, Done) ∷ c.0.calls) (seat s t).entries (g.base t)
              (silent_neutral (Settle t i) Done tt c.0.calls (seat s t).entries (g.base t) c.2.tied) i (entry (seat s t) i) fd Settled;
          stamp = λ v. c.2.stamp v;
          fresh = λ q. absurd (early (inl q));
          quiet = λ q. absurd (early q);
          unsettled = λ ph j f q h. still ph j f h (enter_cases i (stood (entry (seat s t) i) Settled) (find_item i (entry (seat s t) i) (seat s t).entries fd) j f (seat s t).entries q);
          done = λ ph. c.2.done ph;
        }
        mine false n = absurd (n refl)

  in_phase : (t : ℕ) (p : Phase) → not (is (seat s t).phase p) ≡ false → (seat s t).phase ≡ p
  in_phase t p h = is_true (seat s t).phase p (not-false (is (seat s t).phase p) h)

  in_range : (i : ℕ) → leb (length s.versions) i ≡ false → i < length vs
  in_range i h = let a = leb-false (length s.versions) i h in let b = k.count in omega arith

  -- call by call
  pub kept : (c : Call) → Clear (rules s c) → Kept (next s (seat s (tool_of c)) c) (add (c, answer s (seat s (tool_of c)) c) ts)
  kept (Begin t) r = begin_kept t (tool_below t r.0) (in_phase t Idle r.1.0)
  kept (Read t i) r = read_kept t (tool_below t r.0) (in_phase t Open r.1.0) i (in_range i r.1.1.0) (absent (seat s t) i) refl
  kept (Write t i v) r = write_kept t (tool_below t r.0) (in_phase t Open r.1.0) i v (in_range i r.1.1.0)
  kept (Close t n) r = close_kept t (tool_below t r.0) (in_phase t Open r.1.0) (Close t n) (counter (seat s t) n) refl refl (omega arith)
  kept (Certify t i) r =
      let lt = tool_below t r.0 in
      let cl = in_phase t Closed r.1.0 in
      let fd = found i (find i (seat s t).entries) r.1.1.0 in
      certify_kept t lt i cl fd (certify_core vs s g k z t lt i fd cl r.1.1.1.1)
  kept (Commit t) r = commit_kept t (tool_below t r.0) (in_phase t Closed r.1.0) (not-false (all_held (seat s t).entries) r.1.1.0)
  kept (Abort t) r = go (or_cases (is (seat s t).phase Open) (is (seat s t).phase Closed || is (seat s t).phase Failed)
      (not-false (is (seat s t).phase Open || (is (seat s t).phase Closed || is (seat s t).phase Failed)) r.1.0))
    where
      lt : t < 16
      lt = tool_below t r.0

      later : (is (seat s t).phase Closed ≡ true) ⊎ (is (seat s t).phase Failed ≡ true) → Kept (next s (seat s t) (Abort t)) (add (Abort t, Done) ts)
      later (inl h) = abort_kept t lt Closed (is_true (seat s t).phase Closed h) refl refl (λ _. tt)
      later (inr h) = abort_kept t lt Failed (is_true (seat s t).phase Failed h) refl refl (λ _. tt)

      go : (is (seat s t).phase Open ≡ true) ⊎ ((is (seat s t).phase Closed || is (seat s t).phase Failed) ≡ true) → Kept (next s (seat s t) (Abort t)) (add (Abort t, Done) ts)
      go (inl h) =
          let op = is_true (seat s t).phase Open h in
          abort_kept t lt Open op refl refl (λ a. both_ways (any_held (seat s t).entries) ((z.seats t lt).calm (inr op)) a)
      go (inr h) = later (or_cases (is (seat s t).phase Closed) (is (seat s t).phase Failed) h)
  kept (Settle t i) r = settle_kept t (tool_below t r.0) i
      (go (or_cases (is (seat s t).phase Committed) (is (seat s t).phase Aborting) (not-false (is (seat s t).phase Committed || is (seat s t).phase Aborting) r.1.0)))
      (found i (find i (seat s t).entries) r.1.1.0)
      (not-false (is_held (entry (seat s t) i).stand) r.1.1.1.0)
    where
      go : (is (seat s t).phase Committed ≡ true) ⊎ (is (seat s t).phase Aborting ≡ true) → ((seat s t).phase ≡ Committed) ⊎ ((seat s t).phase ≡ Aborting)
      go (inl h) = inl (is_true (seat s t).phase Committed h)
      go (inr h) = inr (is_true (seat s t).phase Aborting h)
