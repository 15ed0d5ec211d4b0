-- Each request has one frame. Assumes nothing.
use Rattle.std.proofs.Common.{◌≡◌, ℕ, zero, suc, ◌+◌, ◌≤◌, Bool, false, cond, eqb, ◌⊎◌, List, [], ◌∷◌, ◌++◌, length, get_or, take, drop, Ok, Err, Result, sym, refl, ap, ◌∙◌, subst, inl, inr, ⊎_elim, append_assoc, append-nil, arith}
use Rattle.std.proofs.lemmas.Grind.{common_steps}
use Rattle.std.proofs.lemmas.Bool.{cases_Bool, cond-true, cond-false, eqb-true, ltb-false, not-false}
use Rattle.std.proofs.lemmas.List.{length-append, take_at, drop_at, take-append-drop, drop-drop, length-take, get_or-drop}
use Rattle.store.specs.Bytes.{number_in, bytes_of, part}
use Rattle.service.specs.declared.calls.Call.{Call}
use Rattle.service.specs.declared.calls.Call.TheVariants.{Begin, Read, Write, Close, Certify, Commit, Abort, Settle}
use Rattle.service.specs.Service.{tool_of}
use Rattle.frame.specs.declared.faults.Fault.{Fault}
use Rattle.frame.specs.declared.kinds.Kind.{Kind}
use Rattle.frame.specs.declared.kinds.Kind.TheVariants as kind
use Rattle.frame.specs.Fields.{tag, width, field, taken, bind}
use Rattle.frame.specs.Requests.{frame_of, arguments, number, taken_call, ended, read_request, with_none, with_one}
use Rattle.frame.specs.RoundTrip.{Bytes, Fits, CallFits, RequestsOneFrame}
use Rattle.store.proofs.Numbers.{length_bytes_of, number_in_bytes_of}
use Rattle.frame.proofs.Bytes.{bytes_of_number_in}
use Rattle.frame.proofs.Taking.{some_width, found}

-- a field that was written is read
pub taken_field : (k : Kind) (n : ℕ) (rest : List ℕ) → Fits k n → taken k (field k n ++ rest) ≡ Ok (n, rest)
taken_field k n rest fits =
    let frame = field k n ++ rest in
    let size = length_bytes_of (width k) n in
    let long : 3 + width k ≤ length frame = omega (arith, length-append (bytes_of (width k) n) rest) in
    let value : number_in (part 3 (width k) frame) ≡ n = ap number_in (take_at (bytes_of (width k) n) rest (width k) size) ∙ number_in_bytes_of (width k) n fits in
    let back : drop (3 + width k) frame ≡ rest = sym (drop-drop (width k) 3 frame) ∙ drop_at (bytes_of (width k) n) rest (width k) size in
    found k frame long refl (number_in_bytes_of 2 (width k) (omega (arith, some_width k)))
    ∙ (ap (λ x. Ok (x, drop (3 + width k) frame)) value ∙ ap (λ x. Ok (n, x)) back)

-- what a reading that came to an end went through

cond_ok : {X : Type 0} (b : Bool) (e : Fault) (r : Result X Fault) (x : X) → cond b (Err e) r ≡ Ok x → (b ≡ false) × (r ≡ Ok x)
cond_ok b e r x h = grind (arith, common_steps)

pub bind_ok : {X Y : Type 0} (r : Result X Fault) (next : X → Result Y Fault) (y : Y) → bind r next ≡ Ok y → (x : X) × (r ≡ Ok x) × (next x ≡ Ok y)
bind_ok (Ok x) next y h = (x, refl, h)
bind_ok (Err e) next y h = absurd (cc)

pub same_pair : {X Y : Type 0} (a x : X) (b y : Y) → ◌≡◌ {A = Result (X × Y) Fault} (Ok (a, b)) (Ok (x, y)) → (a ≡ x) × (b ≡ y)
same_pair {X} {Y} a x b y h = let p : ◌≡◌ {A = X × Y} (a, b) (x, y) = cc in (ap (λ (q : X × Y). q.0) p, ap (λ (q : X × Y). q.1) p)

bytes_take : (n : ℕ) (xs : List ℕ) → Bytes xs → Bytes (take n xs)
bytes_take zero xs h i = omega arith
bytes_take (suc n) [] h i = omega arith
bytes_take (suc n) (x ∷ xs) h zero = h 0
bytes_take (suc n) (x ∷ xs) h (suc i) = bytes_take n xs (λ j. h (suc j)) i

bytes_drop : (n : ℕ) (xs : List ℕ) → Bytes xs → Bytes (drop n xs)
bytes_drop n xs h i = omega (arith, get_or-drop n xs i 0, h (n + i))

-- a field that is read was written
module _ (k : Kind) (n : ℕ) (rest : List ℕ) where
  parts : (frame : List ℕ) → Bytes frame → 3 + width k ≤ length frame → get_or frame 0 0 ≡ tag k → number_in (part 1 2 frame) ≡ width k
      → number_in (part 3 (width k) frame) ≡ n → drop (3 + width k) frame ≡ rest → frame ≡ field k n ++ rest
  parts [] bytes long tagged sized value back = absurd (omega arith)
  parts (t ∷ []) bytes long tagged sized value back = absurd (omega (arith, some_width k))
  parts (t ∷ h ∷ []) bytes long tagged sized value back = absurd (omega (arith, some_width k))
  parts (t ∷ h ∷ l ∷ body) bytes long tagged sized value back =
      let two : bytes_of 2 (width k) ≡ h ∷ l ∷ [] = ap (bytes_of 2) (sym sized) ∙ bytes_of_number_in (h ∷ l ∷ []) (bytes_take 2 (h ∷ l ∷ body) (λ i. bytes (suc i))) in
      let size : length (take (width k) body) ≡ width k = simp length-take (omega arith) in
      let content : bytes_of (width k) n ≡ take (width k) body =
      ap (bytes_of (width k)) (sym value) ∙ (ap (λ m. bytes_of m (number_in (take (width k) body))) (sym size) ∙ bytes_of_number_in (take (width k) body) (bytes_take (width k) body (λ i. bytes (suc (suc (suc i)))))) in
      let after : rest ≡ drop (width k) body = sym back ∙ sym (drop-drop (width k) 3 (t ∷ h ∷ l ∷ body)) in
      sym (joined tagged two content after)
    where
      joined : t ≡ tag k → bytes_of 2 (width k) ≡ h ∷ l ∷ [] → bytes_of (width k) n ≡ take (width k) body → rest ≡ drop (width k) body → field k n ++ rest ≡ t ∷ h ∷ l ∷ body
      joined e1 e2 e3 e4 =
          ap (λ x. (tag k ∷ (x ++ bytes_of (width k) n)) ++ rest) e2
          ∙ (ap (λ x. x ∷ (h ∷ l ∷ (bytes_of (width k) n ++ rest))) (sym e1)
          ∙ (ap (λ x. t ∷ h ∷ l ∷ (x ++ rest)) e3 ∙ (ap (λ x. t ∷ h ∷ l ∷ (take (width k) body ++ x)) e4 ∙ ap (λ x. t ∷ h ∷ l ∷ x) (take-append-drop (width k) body))))

  pub field_taken : (frame : List ℕ) → Bytes frame → taken k frame ≡ Ok (n, rest) → (frame ≡ field k n ++ rest) × Bytes rest
  field_taken frame bytes h =
      let (three, h1) = cond_ok _ _ _ _ h in
      let (tagged, h2) = cond_ok _ _ _ _ h1 in
      let (sized, h3) = cond_ok _ _ _ _ h2 in
      let (long, h4) = cond_ok _ _ _ _ h3 in
      let (value, back) = same_pair _ _ _ _ h4 in (
        parts frame bytes (ltb-false _ _ long) (eqb-true _ _ (not-false _ tagged)) (eqb-true _ _ (not-false _ sized)) value back,
        subst Bytes back (bytes_drop (3 + width k) frame bytes),
      )

-- requests

-- a frame up to the call's number
headed : (t n : ℕ) (rest : List ℕ) → Fits kind.Tool t → Fits kind.Call n
    → read_request (field kind.Tool t ++ (field kind.Call n ++ rest)) ≡ bind (taken_call t n rest) ended
headed t n rest tool call =
    ap (λ r. bind r (λ x. bind (taken kind.Call x.1) (λ m. bind (taken_call x.0 m.0 m.1) ended))) (taken_field kind.Tool t (field kind.Call n ++ rest) tool)
    ∙ ap (λ r. bind r (λ m. bind (taken_call t m.0 m.1) ended)) (taken_field kind.Call n rest call)

with_one_field : (k : Kind) (make : ℕ → Call) (n : ℕ) (rest : List ℕ) → Fits k n → with_one k make (field k n ++ rest) ≡ Ok (make n, rest)
with_one_field k make n rest fits = ap (λ r. bind r (λ x. Ok (make x.0, x.1))) (taken_field k n rest fits)

last_one : (k : Kind) (make : ℕ → Call) (n : ℕ) → Fits k n → bind (with_one k make (field k n)) ended ≡ Ok (make n)
last_one k make n fits =
    ap (λ l. bind (with_one k make l) ended) (sym (append-nil (field k n))) ∙ ap (λ r. bind r ended) (with_one_field k make n [] fits)

pub read_written : (c : Call) → CallFits c → read_request (frame_of c) ≡ Ok c
read_written (Begin t) tool = headed t 1 [] tool (omega arith)
read_written (Read t i) (tool, item) = headed t 2 (field kind.Item i) tool (omega arith) ∙ last_one kind.Item (Read t) i item
read_written (Write t i v) (tool, item, value) =
    headed t 3 (field kind.Item i ++ field kind.Value v) tool (omega arith)
    ∙ (ap (λ r. bind (bind r (λ x. with_one kind.Value (Write t x.0) x.1)) ended) (taken_field kind.Item i (field kind.Value v) item)
    ∙ last_one kind.Value (Write t i) v value)
read_written (Close t k) (tool, tick) = headed t 4 (field kind.Tick k) tool (omega arith) ∙ last_one kind.Tick (Close t) k tick
read_written (Certify t i) (tool, item) = headed t 5 (field kind.Item i) tool (omega arith) ∙ last_one kind.Item (Certify t) i item
read_written (Commit t) tool = headed t 6 [] tool (omega arith)
read_written (Abort t) tool = headed t 7 [] tool (omega arith)
read_written (Settle t i) (tool, item) = headed t 8 (field kind.Item i) tool (omega arith) ∙ last_one kind.Item (Settle t) i item

-- what follows the call's number is what the call takes
record Argued (t n : ℕ) (frame : List ℕ) (c : Call) (rest : List ℕ) : Type 0 where
  tool : tool_of c ≡ t
  called : number c ≡ n
  takes : frame ≡ arguments c ++ rest

pub choose : {X : Type 0} (n m : ℕ) (a b r : X) → cond (eqb n m) a b ≡ r → ((n ≡ m) × (a ≡ r)) ⊎ (b ≡ r)
choose n m a b r h = ⊎_elim (λ e. inl (eqb-true n m e, sym (cond-true (eqb n m) a b e) ∙ h)) (λ e. inr (sym (cond-false (eqb n m) a b e) ∙ h)) (cases_Bool (eqb n m))

module _ (t n : ℕ) (frame : List ℕ) (bytes : Bytes frame) (c : Call) (rest : List ℕ) where
  none : (d : Call) → tool_of d ≡ t → n ≡ number d → arguments d ≡ [] → with_none d frame ≡ Ok (c, rest) → Argued t n frame c rest
  none d tool called takes h =
      let (e, f) = same_pair _ _ _ _ h in
      subst (λ (x : Call). Argued t n frame x rest) e (record { tool = tool; called = sym called; takes = f ∙ ap (λ l. l ++ rest) (sym takes) })

  one : (k : Kind) (make : ℕ → Call) (front : List ℕ) (from : List ℕ) → Bytes from → frame ≡ front ++ from
      → ((x : ℕ) → (tool_of (make x) ≡ t) × (n ≡ number (make x)) × (arguments (make x) ≡ front ++ field k x))
      → with_one k make from ≡ Ok (c, rest) → Argued t n frame c rest
  one k make front from bytes' split shape h =
      let (x, g, j) = bind_ok _ _ _ h in
      let (e, f) = same_pair _ _ _ _ j in
      let (w, _) = field_taken k x.0 x.1 from bytes' g in
      let (tool, called, takes) = shape x.0 in
      let all : frame ≡ arguments (make x.0) ++ rest =
      split ∙ (ap (λ l. front ++ l) (w ∙ ap (λ l. field k x.0 ++ l) f) ∙ (sym (append_assoc front (field k x.0) rest) ∙ ap (λ l. l ++ rest) (sym takes))) in
      subst (λ (y : Call). Argued t n frame y rest) e (record { tool = tool; called = sym called; takes = all })

  two : n ≡ 3 → bind (taken kind.Item frame) (λ i. with_one kind.Value (Write t i.0) i.1) ≡ Ok (c, rest) → Argued t n frame c rest
  two is h =
      let (i, g, j) = bind_ok _ _ _ h in
      let (w, b) = field_taken kind.Item i.0 i.1 frame bytes g in
      one kind.Value (Write t i.0) (field kind.Item i.0) i.1 b w (λ x. (refl, is, refl)) j

  argued : taken_call t n frame ≡ Ok (c, rest) → Argued t n frame c rest
  argued h =
      ⊎_elim (λ (e, h). none (Begin t) refl e refl h) (λ h.
      ⊎_elim (λ (e, h). one kind.Item (Read t) [] frame bytes refl (λ x. (refl, e, refl)) h) (λ h.
      ⊎_elim (λ (e, h). two e h) (λ h.
      ⊎_elim (λ (e, h). one kind.Tick (Close t) [] frame bytes refl (λ x. (refl, e, refl)) h) (λ h.
      ⊎_elim (λ (e, h). one kind.Item (Certify t) [] frame bytes refl (λ x. (refl, e, refl)) h) (λ h.
      ⊎_elim (λ (e, h). none (Commit t) refl e refl h) (λ h.
      ⊎_elim (λ (e, h). none (Abort t) refl e refl h) (λ h.
      ⊎_elim (λ (e, h). one kind.Item (Settle t) [] frame bytes refl (λ x. (refl, e, refl)) h) (λ h. absurd (cc))
      (choose n 8 _ _ _ h)) (choose n 7 _ _ _ h)) (choose n 6 _ _ _ h)) (choose n 5 _ _ _ h)) (choose n 4 _ _ _ h)) (choose n 3 _ _ _ h)) (choose n 2 _ _ _ h)) (choose n 1 _ _ _ h)

pub ended_ok : {X : Type 0} (p : X × List ℕ) (x : X) → ended p ≡ Ok x → p ≡ (x, [])
ended_ok (y, []) x h = let e : y ≡ x = cc in ap (λ z. (z, [])) e
ended_ok (y, b ∷ rest) x h = absurd (cc)

pub written_read : (frame : List ℕ) (c : Call) → Bytes frame → read_request frame ≡ Ok c → frame_of c ≡ frame
written_read frame c bytes h =
    let (t, g, h1) = bind_ok _ _ _ h in
    let (w, b) = field_taken kind.Tool t.0 t.1 frame bytes g in
    let (n, g1, h2) = bind_ok _ _ _ h1 in
    let (w1, b1) = field_taken kind.Call n.0 n.1 t.1 b g1 in
    let (d, g2, h3) = bind_ok _ _ _ h2 in
    let a = argued t.0 n.0 n.1 b1 c [] (g2 ∙ ap (λ x. Ok x) (ended_ok d c h3)) in
    let rest : n.1 ≡ arguments c = a.takes ∙ append-nil (arguments c) in
    sym (w ∙ (ap (λ l. field kind.Tool t.0 ++ l) (w1 ∙ ap (λ l. field kind.Call n.0 ++ l) rest)
    ∙ (ap (λ x. field kind.Tool x ++ (field kind.Call n.0 ++ arguments c)) (sym a.tool) ∙ ap (λ x. field kind.Tool (tool_of c) ++ (field kind.Call x ++ arguments c)) (sym a.called))))

pub requests_one_frame : RequestsOneFrame
requests_one_frame = record {
  read_written = read_written;
  written_read = written_read;
  apart = λ c d fits fits' e. let h : ◌≡◌ {A = Result Call Fault} (Ok c) (Ok d) = sym (read_written c fits) ∙ (ap read_request e ∙ read_written d fits') in cc;
}
