-- The last of a list that has a key, and the records that compaction keeps. Assumes nothing.
use Rattle.std.proofs.Common.{◌≡◌, ℕ, zero, suc, ◌+◌, ◌-◌, ◌<◌, ◌≤◌, Bool, true, false, cond, eqb, ltb, List, [], ◌∷◌, ◌++◌, map, length, get_or, drop, set, is_some as option_is_some, Some, None, count_by, Option, sym, refl, ap, ◌∙◌, ⊎_elim, add-zero, suc-add, zero-add, arith}
use Rattle.std.specs.List.{range_with_len, list_all}
use Rattle.std.specs.Option.{option_or, option_map}
use Rattle.std.proofs.lemmas.List.FromFn.{length-map-range_with_len, get_or-map-range_with_len}
use Rattle.std.proofs.lemmas.List.{map-append, drop_at, drop-drop, get_or-set_same, get_or-set_other}
use Rattle.std.proofs.lemmas.List.Sums.{sum_by-set, sum_by-cons, count_by-le-length}
use Rattle.std.proofs.lemmas.Bool.{cases_Bool, cases_eq, eqb-true, ltb-true, eq-eqb, ne_eqb, cond-true, cond-false, and_parts, and_from}
use Rattle.store.specs.Log.{last_by, last_place, kept, item_of, record_at}
use Rattle.store.proofs.Made.{set_made}

or_none : {X : Type 0} (o : Option X) → option_or o None ≡ o
or_none None = refl
or_none (Some x) = refl

or_assoc : {X : Type 0} (a b c : Option X) → option_or (option_or a b) c ≡ option_or a (option_or b c)
or_assoc None b c = refl
or_assoc (Some x) b c = refl

or_some : {X : Type 0} (a b : Option X) → option_is_some a ≡ true → option_or a b ≡ a
or_some None b e = absurd (let z : ◌≡◌ {A = ℕ} 0 1 = cc in omega arith)
or_some (Some x) b e = refl

pub last_by_append : {X : Type 0} (f : X → ℕ) (key : ℕ) (xs ys : List X) → last_by f key (xs ++ ys) ≡ option_or (last_by f key ys) (last_by f key xs)
last_by_append f key [] ys = sym (or_none (last_by f key ys))
last_by_append f key (x ∷ xs) ys =
    ap (λ o. option_or o (cond (eqb (f x) key) (Some x) None)) (last_by_append f key xs ys)
    ∙ or_assoc (last_by f key ys) (last_by f key xs) (cond (eqb (f x) key) (Some x) None)

map_or : {X Y : Type 0} (g : X → Y) (b : Bool) (x : X) (o : Option X) → option_or (option_map g o) (cond b (Some (g x)) None) ≡ option_map g (option_or o (cond b (Some x) None))
map_or g true x None = refl
map_or g false x None = refl
map_or g b x (Some y) = refl

pub last_by_map : {X Y : Type 0} (g : X → Y) (f : Y → ℕ) (key : ℕ) (xs : List X) → last_by f key (map g xs) ≡ option_map g (last_by (λ x. f (g x)) key xs)
last_by_map g f key [] = refl
last_by_map g f key (x ∷ xs) =
    ap (λ o. option_or o (cond (eqb (f (g x)) key) (Some (g x)) None)) (last_by_map g f key xs)
    ∙ map_or g (eqb (f (g x)) key) x (last_by (λ y. f (g y)) key xs)

-- places that count up: the last lies within
pub last_by_within : (f : ℕ → ℕ) (key a n q : ℕ) → last_by f key (range_with_len a n) ≡ Some q → (a ≤ q) × (q < a + n)
last_by_within f key a zero q e = absurd (let z : ◌≡◌ {A = ℕ} 0 1 = cc in omega arith)
last_by_within f key a (suc n) q e = go (last_by f key (range_with_len (a + 1) n)) (λ h. last_by_within f key (a + 1) n q h) e
  where
    go : (o : Option ℕ) → (o ≡ Some q → (a + 1 ≤ q) × (q < a + 1 + n)) → option_or o (cond (eqb (f a) key) (Some a) None) ≡ Some q → (a ≤ q) × (q < a + suc n)
    go (Some x) ih h = let r = ih h in (omega arith, omega arith)
    go None ih h =
        ⊎_elim
        (λ t. let same : a ≡ q = some_is (sym (cond-true _ _ _ t) ∙ h) in (omega arith, omega arith))
        (λ t. absurd (none_is (sym (cond-false _ _ _ t) ∙ h)))
        (cases_Bool (eqb (f a) key))
      where
        some_is : {x y : ℕ} → ◌≡◌ {A = Option ℕ} (Some x) (Some y) → x ≡ y
        some_is e' = cc

        none_is : {y : ℕ} → ◌≡◌ {A = Option ℕ} None (Some y) → ⊥
        none_is e' = let z : ◌≡◌ {A = ℕ} 0 1 = cc in omega arith

pub last_by_same :
    (f g : ℕ → ℕ) (key a n : ℕ) → ((k : ℕ) → k < a + n → f k ≡ g k) → last_by f key (range_with_len a n) ≡ last_by g key (range_with_len a n)
last_by_same f g key a zero same = refl
last_by_same f g key a (suc n) same =
    ap (λ o. option_or o (cond (eqb (f a) key) (Some a) None)) (last_by_same f g key (a + 1) n (λ k below. same k (omega arith)))
    ∙ ap (λ x. option_or (last_by g key (range_with_len (a + 1) n)) (cond (eqb x key) (Some a) None)) (same a (omega arith))

-- compaction keeps the last record of each item
pub last_by_kept : (key : ℕ) (rs : List (List ℕ)) → last_by item_of key (kept rs) ≡ last_by item_of key rs
last_by_kept key [] = refl
last_by_kept key (r ∷ rs) =
    ⊎_elim
    (λ later.
    ap (last_by item_of key) (cond-true _ (kept rs) (r ∷ kept rs) later)
    ∙ last_by_kept key rs
    ∙ sym (⊎_elim
    (λ same. or_some (last_by item_of key rs) _ (ap (λ k. option_is_some (last_by item_of k rs)) (sym (eqb-true (item_of r) key same)) ∙ later))
    (λ other. ap (option_or (last_by item_of key rs)) (cond-false _ (Some r) None other) ∙ or_none (last_by item_of key rs))
    (cases_Bool (eqb (item_of r) key))))
    (λ last.
    ap (last_by item_of key) (cond-false _ (kept rs) (r ∷ kept rs) last)
    ∙ ap (λ o. option_or o (cond (eqb (item_of r) key) (Some r) None)) (last_by_kept key rs))
    (cases_Bool (option_is_some (last_by item_of (item_of r) rs)))

pub all_kept : (q : List ℕ → Bool) (rs : List (List ℕ)) → list_all q rs ≡ true → list_all q (kept rs) ≡ true
all_kept q [] all = refl
all_kept q (r ∷ rs) all =
    let parts = and_parts (q r) (list_all q rs) all in
    ⊎_elim
    (λ later. ap (list_all q) (cond-true _ (kept rs) (r ∷ kept rs) later) ∙ all_kept q rs parts.1)
    (λ last. ap (list_all q) (cond-false _ (kept rs) (r ∷ kept rs) last) ∙ and_from (q r) (list_all q (kept rs)) parts.0 (all_kept q rs parts.1))
    (cases_Bool (option_is_some (last_by item_of (item_of r) rs)))

-- it keeps one record for each item that has one, so at most as many as there are items
abbrev has : List (List ℕ) → ℕ → Bool
has rs item = option_is_some (last_by item_of item rs)

abbrev marks : ℕ → List (List ℕ) → List Bool
marks count rs = map (has rs) (range_with_len 0 count)

or_has : {X : Type 0} (o : Option X) (x : X) → option_is_some (option_or o (Some x)) ≡ true
or_has None x = refl
or_has (Some y) x = refl

none : (a n : ℕ) → count_by (λ b. b) (map (has []) (range_with_len a n)) ≡ 0
none a zero = refl
none a (suc n) = sum_by-cons (λ b. cond b 1 0) false (map (has []) (range_with_len (a + 1) n)) ∙ omega (arith, none (a + 1) n)

one_more :
    (count : ℕ) (r : List ℕ) (rs : List (List ℕ)) → item_of r < count
    → count_by (λ b. b) (marks count (r ∷ rs)) + cond (has rs (item_of r)) 1 0 ≡ count_by (λ b. b) (marks count rs) + 1
one_more count r rs below =
    let long = length-map-range_with_len (has rs) 0 count in
    let marked : marks count (r ∷ rs) ≡ set (marks count rs) (item_of r) true =
    set_made (has rs) (has (r ∷ rs)) count (item_of r) true
    (λ _. ap (λ o. option_is_some (option_or (last_by item_of (item_of r) rs) o)) (cond-true _ (Some r) None (eq-eqb (item_of r) (item_of r) refl)) ∙ or_has (last_by item_of (item_of r) rs) r)
    (λ j _ apart. ap (λ o. option_is_some (option_or (last_by item_of j rs) o)) (cond-false _ (Some r) None (ne_eqb (item_of r) j (λ e. apart (sym e)))) ∙ ap option_is_some (or_none (last_by item_of j rs))) in
    let bit : get_or (marks count rs) (item_of r) false ≡ has rs (item_of r) = get_or-map-range_with_len (has rs) 0 count (item_of r) (item_of r) false below (omega arith) in
    ap (λ m. count_by (λ b. b) m + cond (has rs (item_of r)) 1 0) marked
    ∙ ap (λ b. count_by (λ b. b) (set (marks count rs) (item_of r) true) + cond b 1 0) (sym bit)
    ∙ sum_by-set (λ b. cond b 1 0) (marks count rs) (item_of r) true false (omega arith)

counted : (count : ℕ) (rs : List (List ℕ)) → list_all (λ r. ltb (item_of r) count) rs ≡ true → length (kept rs) ≡ count_by (λ b. b) (marks count rs)
counted count [] all = sym (none 0 count)
counted count (r ∷ rs) all =
    let parts = and_parts (ltb (item_of r) count) (list_all (λ x. ltb (item_of x) count) rs) all in
    let ih = counted count rs parts.1 in
    let more = one_more count r rs (ltb-true (item_of r) count parts.0) in
    ⊎_elim
    (λ later. ap length (cond-true _ (kept rs) (r ∷ kept rs) later) ∙ omega (arith, ih, more, cond-true {A = ℕ} (has rs (item_of r)) 1 0 later))
    (λ last. ap length (cond-false _ (kept rs) (r ∷ kept rs) last) ∙ omega (arith, ih, more, cond-false {A = ℕ} (has rs (item_of r)) 1 0 last))
    (cases_Bool (has rs (item_of r)))

pub length_kept : (count : ℕ) (rs : List (List ℕ)) → list_all (λ r. ltb (item_of r) count) rs ≡ true → length (kept rs) ≤ count
length_kept count rs all =
    omega (arith, counted count rs all, count_by-le-length (λ b. b) (marks count rs), length-map-range_with_len (has rs) 0 count)

-- a record is the last of its item, or there is a later one
counting_split : (a m n : ℕ) → range_with_len a (m + n) ≡ range_with_len a m ++ range_with_len (a + m) n
counting_split a zero n = simp (zero-add, add-zero)
counting_split a (suc m) n =
    let shift : a + 1 + m ≡ a + suc m = omega arith in
    ap (range_with_len a) (suc-add m n) ∙ ap (λ l. a ∷ l) (counting_split (a + 1) m n ∙ ap (λ k. range_with_len (a + 1) m ++ range_with_len k n) shift)

pub or_cond : {X : Type 0} (b : Bool) (x : X) (o : Option X) → option_or (cond b (Some x) None) o ≡ cond b (Some x) o
or_cond true x o = refl
or_cond false x o = refl

-- one record more
pub last_place_more :
    (buffer : List ℕ) (n item : ℕ)
    → last_place buffer (n + 1) item ≡ cond (eqb (item_of (record_at buffer n)) item) (Some n) (last_place buffer n item)
last_place_more buffer n item =
    let item_at : ℕ → ℕ = λ place. item_of (record_at buffer place) in
    ap (last_by item_at item) (counting_split 0 n 1 ∙ ap (λ k. range_with_len 0 n ++ (k ∷ [])) (zero-add n))
    ∙ last_by_append item_at item (range_with_len 0 n) (n ∷ [])
    ∙ or_cond (eqb (item_at n) item) n (last_place buffer n item)

is_some : {X : Type 0} {x y : X} → ◌≡◌ {A = Option X} (Some x) (Some y) → x ≡ y
is_some e = cc

none_later :
    (o front all : Option ℕ) (place : ℕ) → ((q : ℕ) → o ≡ Some q → place < q)
    → all ≡ option_or (option_or o (Some place)) front → all ≡ Some place → option_is_some o ≡ false
none_later None front all place above e is = refl
none_later (Some q) front all place above e is =
    let same : q ≡ place = is_some (sym e ∙ is) in let h = above q refl in absurd (omega arith)

one_later :
    (o front all : Option ℕ) (place : ℕ)
    → all ≡ option_or (option_or o (Some place)) front → (all ≡ Some place → ⊥) → option_is_some o ≡ true
one_later None front all place e isnt = absurd (isnt e)
one_later (Some q) front all place e isnt = refl

some_mapped : {X Y : Type 0} (g : X → Y) (o : Option X) → option_is_some (option_map g o) ≡ option_is_some o
some_mapped g None = refl
some_mapped g (Some x) = refl

pub record Turn (f : ℕ → List ℕ) (n place : ℕ) : Type 0 where
  pub split : drop place (map f (range_with_len 0 n)) ≡ f place ∷ drop (place + 1) (map f (range_with_len 0 n))
  pub last : last_by (λ k. item_of (f k)) (item_of (f place)) (range_with_len 0 n) ≡ Some place
      → kept (drop place (map f (range_with_len 0 n))) ≡ f place ∷ kept (drop (place + 1) (map f (range_with_len 0 n)))
  pub later : (last_by (λ k. item_of (f k)) (item_of (f place)) (range_with_len 0 n) ≡ Some place → ⊥)
      → kept (drop place (map f (range_with_len 0 n))) ≡ kept (drop (place + 1) (map f (range_with_len 0 n)))

pub turn : (f : ℕ → List ℕ) (n place : ℕ) → place < n → Turn f n place
turn f n place below =
    let key = item_of (f place) in
    let rest : ℕ = n - place - 1 in
    let tail : List ℕ = range_with_len (place + 1) rest in
    let front : List ℕ = range_with_len 0 place in
    let whole : range_with_len 0 n ≡ front ++ (place ∷ tail) =
    ap (range_with_len 0) (omega arith) ∙ counting_split 0 place (suc rest) ∙ ap (λ k. front ++ range_with_len k (suc rest)) (zero-add place) in
    let made : map f (range_with_len 0 n) ≡ map f front ++ (f place ∷ map f tail) = ap (map f) whole ∙ map-append f front (place ∷ tail) in
    let long : length (map f front) ≡ place = length-map-range_with_len f 0 place in
    let here : drop place (map f (range_with_len 0 n)) ≡ f place ∷ map f tail = ap (drop place) made ∙ drop_at (map f front) (f place ∷ map f tail) place long in
    let after : drop (place + 1) (map f (range_with_len 0 n)) ≡ map f tail = sym (drop-drop 1 place (map f (range_with_len 0 n))) ∙ ap (drop 1) here in
    let item_at : ℕ → ℕ = λ k. item_of (f k) in
    let found : last_by item_at key (range_with_len 0 n) ≡ option_or (option_or (last_by item_at key tail) (Some place)) (last_by item_at key front) =
    ap (last_by item_at key) whole ∙ last_by_append item_at key front (place ∷ tail)
    ∙ ap (λ p. option_or (option_or (last_by item_at key tail) p) (last_by item_at key front)) (cond-true _ (Some place) None (eq-eqb key key refl)) in
    let flag : option_is_some (last_by item_of key (map f tail)) ≡ option_is_some (last_by item_at key tail) =
    ap option_is_some (last_by_map f item_of key tail) ∙ some_mapped f (last_by item_at key tail) in
    record {
      split = here ∙ ap (λ l. f place ∷ l) (sym after);
      last = λ is.
          ap kept here
          ∙ cond-false _ _ _ (flag ∙ none_later (last_by item_at key tail) (last_by item_at key front) (last_by item_at key (range_with_len 0 n)) place (λ q e. omega (arith, (last_by_within item_at key (place + 1) rest q e).0)) found is)
          ∙ ap (λ l. f place ∷ kept l) (sym after);
      later = λ isnt.
          ap kept here
          ∙ cond-true _ _ _ (flag ∙ one_later (last_by item_at key tail) (last_by item_at key front) (last_by item_at key (range_with_len 0 n)) place found isnt)
          ∙ ap kept (sym after);
    }

-- an entry of the index, once the last record of an item is noted
pub noted :
    (latest : List (Option ℕ)) (item n i : ℕ) (old new : Option ℕ) → item < length latest
    → get_or latest i None ≡ old → new ≡ cond (eqb item i) (Some n) old
    → get_or (set latest item (Some n)) i None ≡ new
noted latest item n i old new within was is =
    ⊎_elim
    (λ same.
    ap (λ k. get_or (set latest item (Some n)) k None) same
    ∙ get_or-set_same latest item (Some n) None within
    ∙ sym (is ∙ cond-true _ (Some n) old (eq-eqb item i (sym same))))
    (λ apart.
    get_or-set_other latest item i (Some n) None apart
    ∙ was
    ∙ sym (is ∙ cond-false _ (Some n) old (ne_eqb item i (λ e. apart (sym e)))))
    (cases_eq i item)
