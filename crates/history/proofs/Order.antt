-- Serial runs in strict order: the last writer of an item is the one with the largest stamp.
use Rattle.std.proofs.Common.{◌≡◌, ℕ, ◌<◌, ◌≤◌, Bool, true, false, cond, eqb, ◌⊎◌, List, [], ◌∷◌, Some, Option, sym, refl, ap, ◌∙◌, subst, inl, inr, arith}
use Rattle.history.specs.History.{Accepted, Kind, Begins, Commits, Other, Reads, Settles, Writes, kind}
use Rattle.history.specs.Transactions.{Transaction, stamp_of}
use Rattle.history.specs.Serial.{Cell, Cells, In, act, acts, serial, Rights, AllRight}

abbrev pub cell : ℕ → ℕ → Cell
cell v w = record { value = v; stamp = w }

-- the calls leave value v of item i, whatever stood before
abbrev pub Leaves : ℕ → List Accepted → ℕ → ℕ → Type 0
Leaves s h i v = (m : Cells) → acts s h m i ≡ cell v s

abbrev pub Keeps : ℕ → List Accepted → ℕ → Type 0
Keeps s h i = (m : Cells) → acts s h m i ≡ m i

abbrev pub Wrote : Transaction → ℕ → ℕ → Type 0
Wrote x i v = Leaves (stamp_of x) x.calls i v

pub either : (s : ℕ) (h : List Accepted) (i : ℕ) → Keeps s h i ⊎ ((v : ℕ) × Leaves s h i v)
either s [] i = inl (λ m. refl)
either s (e ∷ h) i = go (kind e.0) (either s h i)
  where
    wr : (v : ℕ) (b : Bool) → Keeps s h i ⊎ ((u : ℕ) × Leaves s h i u)
        → ((m : Cells) → cond b (cell v s) (acts s h m i) ≡ m i) ⊎ ((u : ℕ) × ((m : Cells) → cond b (cell v s) (acts s h m i) ≡ cell u s))
    wr v true r = inr (v, λ m. refl)
    wr v false r = r

    go : (k : Kind) → Keeps s h i ⊎ ((u : ℕ) × Leaves s h i u)
        → ((m : Cells) → act s k (acts s h m) i ≡ m i) ⊎ ((u : ℕ) × ((m : Cells) → act s k (acts s h m) i ≡ cell u s))
    go Begins r = r
    go Commits r = r
    go Other r = r
    go (Reads j) r = r
    go (Settles j) r = r
    go (Writes j v) r = wr v (eqb i j) r

abbrev pub Strict : List Transaction → Type 0
Strict [] = Unit
Strict (x ∷ xs) = ((y : Transaction) → In y xs → stamp_of y < stamp_of x) × Strict xs

-- where the value v with the stamp w of item i comes from: the start, or a transaction
abbrev pub From : Cells → List Transaction → ℕ → ℕ → ℕ → Type 0
From m xs i w v = (m i ≡ cell v w) ⊎ ((y : Transaction) × In y xs × (stamp_of y ≡ w) × Wrote y i v)

module _ (m : Cells) where
  abbrev pub Above : List Transaction → Type 0
  Above xs = (i : ℕ) (x : Transaction) → In x xs → (m i).stamp < stamp_of x

  -- the step to one transaction more
  final_more : (x : Transaction) (xs : List Transaction) (i w v : ℕ) → ((y : Transaction) → In y xs → stamp_of y < stamp_of x) → Above (x ∷ xs)
      → ((u : ℕ) → Wrote x i u → stamp_of x ≤ w) → (From m xs i w v → serial m xs i ≡ cell v w)
      → Keeps (stamp_of x) x.calls i ⊎ ((u : ℕ) × Wrote x i u) → From m (x ∷ xs) i w v → serial m (x ∷ xs) i ≡ cell v w
  final_more x xs i w v lt ab top ih (inl kp) (inl e) = kp (serial m xs) ∙ ih (inl e)
  final_more x xs i w v lt ab top ih (inl kp) (inr (y, inl e, k, yr)) =
      let xr : Wrote x i v = subst (λ (z : Transaction). Wrote z i v) e yr in
      let a : (m i).stamp ≡ stamp_of x = ap (λ (k : Cell). k.stamp) (sym (kp m) ∙ xr m) in
      let b : (m i).stamp < stamp_of x = ab i x (inl refl) in
      absurd (omega arith)
  final_more x xs i w v lt ab top ih (inl kp) (inr (y, inr e, k, yr)) = kp (serial m xs) ∙ ih (inr (y, e, k, yr))
  final_more x xs i w v lt ab top ih (inr (u, wr)) (inl e) =
      let a : stamp_of x ≤ w = top u wr in
      let b : (m i).stamp < stamp_of x = ab i x (inl refl) in
      let c : (m i).stamp ≡ w = ap (λ (k : Cell). k.stamp) e in
      absurd (omega arith)
  final_more x xs i w v lt ab top ih (inr (u, wr)) (inr (y, inl e, k, yr)) =
      let xr : Wrote x i v = subst (λ (z : Transaction). Wrote z i v) e yr in
      xr (serial m xs) ∙ ap (cell v) (sym (ap stamp_of e) ∙ k)
  final_more x xs i w v lt ab top ih (inr (u, wr)) (inr (y, inr e, k, yr)) =
      let a : stamp_of x ≤ w = top u wr in
      let b : stamp_of y < stamp_of x = lt y e in
      absurd (omega arith)

  pub final : (xs : List Transaction) (i w v : ℕ) → Strict xs → Above xs → From m xs i w v
      → ((x : Transaction) (u : ℕ) → In x xs → Wrote x i u → stamp_of x ≤ w) → serial m xs i ≡ cell v w
  final [] i w v st ab (inl e) top = e
  final [] i w v st ab (inr y) top = absurd y.1
  final (x ∷ xs) i w v st ab src top =
      final_more x xs i w v st.0 ab (λ u. top x u (inl refl))
      (λ s. final xs i w v st.1 (λ j y k. ab j y (inr k)) s (λ y u k. top y u (inr k)))
      (either (stamp_of x) x.calls i) src

  -- what one reader knows: which items it read from the store, at which stamp and value
  pub record Reader (xs : List Transaction) (x : Transaction) : Type 0 where
    pub base : ℕ → ℕ
    pub seen : ℕ → Option ℕ
    pub rights : (n : Cells) → ((i w : ℕ) → seen i ≡ Some w → (n i).value ≡ base i) → Rights (stamp_of x) n x.calls
    pub older : (i w : ℕ) → seen i ≡ Some w → w < stamp_of x
    pub source : (i w : ℕ) → seen i ≡ Some w → From m xs i w (base i)
    pub gap : (i w : ℕ) → seen i ≡ Some w → (y : Transaction) (u : ℕ) → In y xs → Wrote y i u → w < stamp_of y → stamp_of y < stamp_of x → ⊥

  -- what is older than the latest transaction does not come from it
  below : (x : Transaction) (xs : List Transaction) (i w v : ℕ) → w < stamp_of x → From m (x ∷ xs) i w v → From m xs i w v
  below x xs i w v lt (inl e) = inl e
  below x xs i w v lt (inr (y, inl e, k, yr)) = let a : stamp_of y ≡ stamp_of x = ap stamp_of e in absurd (omega arith)
  below x xs i w v lt (inr (y, inr e, k, yr)) = inr (y, e, k, yr)

  le_not : (a b : ℕ) → (b < a → ⊥) → a ≤ b
  le_not a b f = omega arith

  pub all_right : (xs : List Transaction) → Strict xs → Above xs → ((x : Transaction) → In x xs → Reader xs x) → AllRight m xs
  all_right [] st ab rd = tt
  all_right (x ∷ xs) st ab rd = (here, all_right xs st.1 ab' rest)
    where
      ab' : Above xs
      ab' j y k = ab j y (inr k)

      r : Reader (x ∷ xs) x
      r = rd x (inl refl)

      here : Rights (stamp_of x) (serial m xs) x.calls
      here = r.rights (serial m xs) (λ i w h. ap (λ (k : Cell). k.value)
          (final xs i w (r.base i) st.1 ab' (below x xs i w (r.base i) (r.older i w h) (r.source i w h))
          (λ y u k wr. le_not (stamp_of y) w (λ lt. r.gap i w h y u (inr k) wr lt (st.0 y k)))))

      rest : (y : Transaction) → In y xs → Reader xs y
      rest y k = let q : Reader (x ∷ xs) y = rd y (inr k) in
          let lt : stamp_of y < stamp_of x = st.0 y k in
          record {
            base = q.base;
            seen = q.seen;
            rights = q.rights;
            older = q.older;
            source = λ i w h. below x xs i w (q.base i) (let o : w < stamp_of y = q.older i w h in omega arith) (q.source i w h);
            gap = λ i w h z u j. q.gap i w h z u (inr j);
          }
