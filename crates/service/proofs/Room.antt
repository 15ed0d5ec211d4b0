-- Room in the queues: 16 tools with 8 entries each have at most 128 tokens of a kind.
use Rattle.std.proofs.Common.{◌≡◌, ℕ, zero, suc, ◌+◌, ◌*◌, ◌<◌, ◌≤◌, Bool, true, false, cond, ◌&&◌, eqb, List, [], ◌∷◌, length, get_or, set, Some, sym, refl, ap, ◌∙◌, subst, arith}
use Rattle.std.proofs.lemmas.Bool.{or_parts}
use Rattle.service.specs.declared.tools.Entry.{Entry}
use Rattle.service.specs.declared.tools.Stand.TheVariants.{Held, Settled}
use Rattle.service.specs.Entries.{is_held, find, enter, stood, any_held}
use Rattle.service.specs.Service.{Seat, fresh}
use Rattle.service.specs.Sound.{held, total}
use Rattle.service.proofs.Entries.{no_find, same_some}

-- 1 for an entry that holds a token and passes the test
abbrev hold : (Entry → Bool) → Entry → ℕ
hold f e = cond (is_held e.stand && f e) 1 0

bit : (b : Bool) → cond b 1 0 ≤ 1
bit true = omega arith
bit false = omega arith

module _ (f : Entry → Bool) where
  hold_none : (e : Entry) → is_held e.stand ≡ false → hold f e ≡ 0
  hold_none e h = rw h

  hold_held : (e : Entry) → is_held e.stand ≡ true → hold f e ≡ cond (f e) 1 0
  hold_held e h = rw h

  held_le : (es : List Entry) → held f es ≤ length es
  held_le [] = omega arith
  held_le (x ∷ es) = let a = held_le es in let b = bit (is_held x.stand && f x) in omega arith

  held_lt : (i : ℕ) (e : Entry) (es : List Entry) → find i es ≡ Some e → is_held e.stand ≡ false → held f es < length es
  held_lt i e [] h n = absurd (no_find e h)
  held_lt i e (x ∷ es) h n = go (λ q. held_lt i e es q n) (eqb i x.item) h
    where
      go : (find i es ≡ Some e → held f es < length es) → (b : Bool) → cond b (Some x) (find i es) ≡ Some e → hold f x + held f es < suc (length es)
      go ih true q =
          let a = held_le es in
          let b : hold f x ≡ 0 = ap (hold f) (same_some x e q) ∙ hold_none e n in
          omega arith
      go ih false q = let a = ih q in let b = bit (is_held x.stand && f x) in omega arith

  pub held_calm : (es : List Entry) → any_held es ≡ false → held f es ≡ 0
  held_calm [] h = refl
  held_calm (x ∷ es) h =
      let q = or_parts (is_held x.stand) (any_held es) h in
      let a = held_calm es q.1 in
      let b = hold_none x q.0 in
      omega arith

  held_enter : (i : ℕ) (e d : Entry) (es : List Entry) → d.item ≡ i → find i es ≡ Some e → held f (enter d es) + hold f e ≡ held f es + hold f d
  held_enter i e d [] at h = absurd (no_find e h)
  held_enter i e d (x ∷ es) at h = go (held_enter i e d es at) (eqb d.item x.item) (subst (λ (n : ℕ). cond (eqb n x.item) (Some x) (find i es) ≡ Some e) (sym at) h)
    where
      go : (find i es ≡ Some e → held f (enter d es) + hold f e ≡ held f es + hold f d) → (b : Bool) → cond b (Some x) (find i es) ≡ Some e
          → held f (cond b (d ∷ es) (x ∷ enter d es)) + hold f e ≡ hold f x + held f es + hold f d
      go ih true q = let a : hold f x ≡ hold f e = ap (hold f) (same_some x e q) in omega arith
      go ih false q = let a = ih q in omega arith

  total_set : (xs : List Seat) (t : ℕ) (x : Seat) → t < length xs → total f (set xs t x) + held f (get_or xs t (fresh 0)).entries ≡ total f xs + held f x.entries
  total_set [] t x h = absurd (omega arith)
  total_set (y ∷ ys) zero x h = omega arith
  total_set (y ∷ ys) (suc t) x h = let a = total_set ys t x (omega arith) in omega arith

  pub total_le : (xs : List Seat) → ((u : ℕ) → u < length xs → length (get_or xs u (fresh 0)).entries ≤ 8) → total f xs ≤ length xs * 8
  total_le [] h = omega arith
  total_le (y ∷ ys) h =
      let a = total_le ys (λ u q. h (suc u) (omega arith)) in
      let b = h 0 (omega arith) in
      let c = held_le y.entries in
      omega arith

  total_bound : (xs : List Seat) (t : ℕ) → ((u : ℕ) → u < length xs → length (get_or xs u (fresh 0)).entries ≤ 8) → t < length xs
      → total f xs + 8 ≤ length xs * 8 + held f (get_or xs t (fresh 0)).entries
  total_bound [] t h l = absurd (omega arith)
  total_bound (y ∷ ys) zero h l = let a = total_le ys (λ u q. h (suc u) (omega arith)) in omega arith
  total_bound (y ∷ ys) (suc t) h l =
      let a = total_bound ys t (λ u q. h (suc u) (omega arith)) (omega arith) in
      let b = h 0 (omega arith) in
      let c = held_le y.entries in
      omega arith

  -- n tokens of a kind, no more than the entries that hold one, as the seat of tool t is changed
  module _ (xs : List Seat) (t : ℕ) (lt : t < length xs) (n : ℕ) (le : n ≤ total f xs) where
    pub room_kept : (x : Seat) → held f (get_or xs t (fresh 0)).entries ≤ held f x.entries → n ≤ total f (set xs t x)
    room_kept x h = let a = total_set xs t x lt in omega arith

    -- one entry more holds a token
    pub room_more : (x : Seat) (i : ℕ) (e : Entry) → e.item ≡ i → x.entries ≡ enter (stood e Held) (get_or xs t (fresh 0)).entries
        → find i (get_or xs t (fresh 0)).entries ≡ Some e → is_held e.stand ≡ false → f (stood e Held) ≡ f e → n + cond (f e) 1 0 ≤ total f (set xs t x)
    room_more x i e at ex fd nh fe =
        let a = total_set xs t x lt in
        let b = held_enter i e (stood e Held) (get_or xs t (fresh 0)).entries at fd in
        let c : held f x.entries ≡ held f (enter (stood e Held) (get_or xs t (fresh 0)).entries) = ap (held f) ex in
        let d : ◌≡◌ {A = ℕ} (cond (f (stood e Held)) 1 0) (cond (f e) 1 0) = ap (λ (z : Bool). cond z 1 0) fe in
        let g = hold_none e nh in
        omega arith

    -- one entry fewer
    pub room_less : (x : Seat) (i : ℕ) (e : Entry) (m : ℕ) → e.item ≡ i → held f x.entries ≡ held f (enter (stood e Settled) (get_or xs t (fresh 0)).entries)
        → find i (get_or xs t (fresh 0)).entries ≡ Some e → is_held e.stand ≡ true → m + cond (f e) 1 0 ≡ n → m ≤ total f (set xs t x)
    room_less x i e m at ex fd hd mn =
        let a = total_set xs t x lt in
        let b = held_enter i e (stood e Settled) (get_or xs t (fresh 0)).entries at fd in
        let g = hold_held e hd in
        omega arith

    pub room_left : ((u : ℕ) → u < length xs → length (get_or xs u (fresh 0)).entries ≤ 8) → length xs ≡ 16
        → (i : ℕ) (e : Entry) → find i (get_or xs t (fresh 0)).entries ≡ Some e → is_held e.stand ≡ false → n < 128
    room_left sz sx i e fd nh =
        let a = total_bound xs t sz lt in
        let b = held_lt i e (get_or xs t (fresh 0)).entries fd nh in
        let c = sz t lt in
        omega arith
