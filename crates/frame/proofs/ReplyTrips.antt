-- Each reply has one frame. Assumes nothing.
use Rattle.std.proofs.Common.{◌≡◌, ◌≢◌, ℕ, ◌<◌, false, eqb, List, [], ◌∷◌, ◌++◌, length, Ok, Err, Result, sym, refl, ap, ◌∙◌, subst, ⊎_elim, append-nil, arith}
use Rattle.std.proofs.lemmas.Grind.{common_steps}
use Rattle.std.proofs.lemmas.Bool.{cond-false, ne_eqb}
use Rattle.service.specs.declared.calls.Call.{Call}
use Rattle.service.specs.declared.calls.Call.TheVariants.{Begin, Read, Close}
use Rattle.service.specs.declared.calls.Answer.{Answer}
use Rattle.service.specs.declared.calls.Answer.TheVariants.{Done, Value, Stamp}
use Rattle.service.specs.declared.refusals.Refusal.{Refusal}
use Rattle.service.specs.Refusals.{number}
use Rattle.frame.specs.declared.faults.Fault.{Fault}
use Rattle.frame.specs.declared.faults.Fault.TheVariants.{Unknown}
use Rattle.frame.specs.declared.kinds.Kind.TheVariants as kind
use Rattle.frame.specs.Fields.{field, bind}
use Rattle.frame.specs.Requests.{ended}
use Rattle.frame.specs.RoundTrip.{Bytes, Fits}
use Rattle.frame.specs.Replies.{Reply, given, reply_of, Gives, nothing, value, stamp, gives, taken_answer, first_with, refusals, refusal_with, taken_reply, read_reply, carries, Suits, ReplyFits, RepliesOneFrame}
use Rattle.frame.proofs.RoundTrips.{taken_field, field_taken, bind_ok, same_pair, choose, ended_ok}

numbered : (r : Refusal) → refusal_with (number r) ≡ Ok r
unfolding refusal_with
numbered r = grind (arith, common_steps)

number_fits : (r : Refusal) → number r < 256
number_fits r = grind (arith, common_steps)

refuses : (r : Refusal) → eqb (number r) 0 ≡ false
refuses r = grind (arith, common_steps)

number_first : (n : ℕ) (rs : List Refusal) (r : Refusal) → first_with n rs ≡ Ok r → number r ≡ n
number_first n [] r h = absurd (cc)
number_first n (s ∷ rs) r h = ⊎_elim (λ (e, k). let same : s ≡ r = cc in ap number (sym same) ∙ e) (λ k. number_first n rs r k) (choose (number s) n _ _ _ h)

number_with : (n : ℕ) (r : Refusal) → refusal_with n ≡ Ok r → number r ≡ n
unfolding refusal_with
number_with n r h = number_first n refusals r h

-- what the conversion of a number answers
pub refusal_is : (n : ℕ) (r : Refusal) → number r ≡ n → refusal_with n ≡ Ok r
refusal_is n r is = rw (← is) (numbered r)

none_first : (n : ℕ) (rs : List Refusal) → ((r : Refusal) → number r ≢ n) → first_with n rs ≡ Err Unknown
none_first n [] absent = refl
none_first n (r ∷ rs) absent = cond-false _ _ _ (ne_eqb _ _ (absent r)) ∙ none_first n rs absent

pub refusal_none : (n : ℕ) → ((r : Refusal) → number r ≢ n) → refusal_with n ≡ Err Unknown
unfolding refusal_with
refusal_none n absent = none_first n refusals absent

-- reading what was written

headed : (c : Call) (n : ℕ) (rest : List ℕ) → Fits kind.Answer n → read_reply c (field kind.Answer n ++ rest) ≡ bind (taken_reply c n rest) ended
headed c n rest fits = ap (λ r. bind r (λ x. bind (taken_reply c x.0 x.1) ended)) (taken_field kind.Answer n rest fits)

answer_read : (a : Answer) → ReplyFits (Ok a) → taken_answer (carries a) (given a) ≡ Ok (a, [])
answer_read Done fits = refl
answer_read (Value v) fits = ap (λ r. bind r (λ x. Ok (Value x.0, x.1))) (taken_field kind.Value v [] fits)
answer_read (Stamp s) fits = ap (λ r. bind r (λ x. Ok (Stamp x.0, x.1))) (taken_field kind.Stamp s [] fits)

pub read_written : (c : Call) (a : Reply) → Suits c a → ReplyFits a → read_reply c (reply_of a) ≡ Ok a
read_written c (Ok a) suits fits =
    headed c 0 (given a) (omega arith)
    ∙ ap (λ r. bind (bind r (λ x. Ok (Ok x.0, x.1))) ended) (ap (λ s. taken_answer s (given a)) (sym suits) ∙ answer_read a fits)
read_written c (Err r) suits fits =
    headed c (number r) [] (number_fits r)
    ∙ ap (λ x. bind x ended) (cond-false (eqb (number r) 0) _ _ (refuses r) ∙ ap (λ x. bind x (λ s. Ok (Err s, []))) (numbered r))

-- writing what was read

answer_taken : (s : Gives) (frame : List ℕ) (a : Answer) (rest : List ℕ) → Bytes frame → taken_answer s frame ≡ Ok (a, rest) → (frame ≡ given a ++ rest) × (carries a ≡ s)
answer_taken nothing frame a rest bytes h =
    let (e, f) = same_pair _ _ _ _ h in
    subst (λ (x : Answer). (frame ≡ given x ++ rest) × (carries x ≡ nothing)) e (f, refl)
answer_taken value frame a rest bytes h =
    let (v, g, k) = bind_ok _ _ _ h in
    let (e, f) = same_pair _ _ _ _ k in
    let (w, _) = field_taken kind.Value v.0 v.1 frame bytes g in
    subst (λ (x : Answer). (frame ≡ given x ++ rest) × (carries x ≡ value)) e (w ∙ ap (λ l. field kind.Value v.0 ++ l) f, refl)
answer_taken stamp frame a rest bytes h =
    let (v, g, k) = bind_ok _ _ _ h in
    let (e, f) = same_pair _ _ _ _ k in
    let (w, _) = field_taken kind.Stamp v.0 v.1 frame bytes g in
    subst (λ (x : Answer). (frame ≡ given x ++ rest) × (carries x ≡ stamp)) e (w ∙ ap (λ l. field kind.Stamp v.0 ++ l) f, refl)

pub written_read : (c : Call) (frame : List ℕ) (a : Reply) → Bytes frame → read_reply c frame ≡ Ok a → (reply_of a ≡ frame) × Suits c a
written_read c frame a bytes h =
    let (n, g, h1) = bind_ok _ _ _ h in
    let (w, b) = field_taken kind.Answer n.0 n.1 frame bytes g in
    let (p, g2, h2) = bind_ok _ _ _ h1 in
    let all : taken_reply c n.0 n.1 ≡ Ok (a, []) = g2 ∙ ap (λ x. Ok x) (ended_ok p a h2) in
    ⊎_elim
    (λ (e, k).
    let (x, g3, h3) = bind_ok _ _ _ k in
    let (is, none) = same_pair _ _ _ _ h3 in
    let (gave, suits) = answer_taken (gives c) n.1 x.0 x.1 b g3 in
    let rest : n.1 ≡ given x.0 = gave ∙ (ap (λ l. given x.0 ++ l) none ∙ append-nil (given x.0)) in
    subst (λ (y : Reply). (reply_of y ≡ frame) × Suits c y) is (sym (w ∙ (ap (λ m. field kind.Answer m ++ n.1) e ∙ ap (λ l. field kind.Answer 0 ++ l) rest)), suits))
    (λ k.
    let (r, g3, h3) = bind_ok _ _ _ k in
    let (is, none) = same_pair _ _ _ _ h3 in
    subst (λ (y : Reply). (reply_of y ≡ frame) × Suits c y) is
    (sym (w ∙ (ap (λ l. field kind.Answer n.0 ++ l) none ∙ (append-nil (field kind.Answer n.0) ∙ ap (field kind.Answer) (sym (number_with n.0 r g3))))), tt))
    (choose n.0 0 _ _ _ all)

-- the call that an answer may be to
abbrev asked : Reply → Call
asked (Ok Done) = Begin 0
asked (Ok (Value v)) = Read 0 0
asked (Ok (Stamp s)) = Close 0 0
asked (Err r) = Begin 0

suited : (a : Reply) → Suits (asked a) a
suited a = grind (arith, common_steps)

-- two replies to one call with one frame are the same
one_call : (c : Call) (a b : Reply) → Suits c a → Suits c b → ReplyFits a → ReplyFits b → reply_of a ≡ reply_of b → a ≡ b
one_call c a b sa sb fa fb e =
    let h : ◌≡◌ {A = Result Reply Fault} (Ok a) (Ok b) = sym (read_written c a sa fa) ∙ (ap (read_reply c) e ∙ read_written c b sb fb) in cc

-- answers of different kinds have frames of different lengths
same_kind : (a b : Answer) → length (given a) ≡ length (given b) → carries a ≡ carries b
same_kind a b e = grind (arith, common_steps)

pub apart : (a b : Reply) → ReplyFits a → ReplyFits b → reply_of a ≡ reply_of b → a ≡ b
apart (Err r) b fa fb e = one_call (asked b) (Err r) b tt (suited b) fa fb e
apart (Ok a) (Err r) fa fb e = one_call (asked (Ok a)) (Ok a) (Err r) (suited (Ok a)) tt fa fb e
apart (Ok a) (Ok b) fa fb e =
    let is : carries b ≡ carries a = same_kind b a (omega (arith, sym (ap length e))) in
    one_call (asked (Ok a)) (Ok a) (Ok b) (suited (Ok a)) (is ∙ suited (Ok a)) fa fb e

pub replies_one_frame : RepliesOneFrame
replies_one_frame = record { read_written = read_written; written_read = written_read; apart = apart }
