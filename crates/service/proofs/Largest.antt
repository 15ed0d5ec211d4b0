-- The largest stamp of a store, as its items are looked up in turn.
use Rattle.std.proofs.Common.{◌≡◌, ℕ, zero, suc, ◌+◌, max, List, [], ◌∷◌, map, length, drop, fold, filter_map, sym, ap, ◌∙◌, arith}
use Rattle.std.specs.List.{slice_get, range_with_len}
use Rattle.std.proofs.lemmas.List.{drop_more, drop_all}
use Rattle.std.proofs.lemmas.Option.{slice_get-get_or}
use Rattle.store.specs.declared.Version.{Version}
use Rattle.service.specs.Service.{largest}
use Rattle.service.specs.Services.{largest_found}

none : Version
none = record { value = 0; twrite = 0; tread = 0 }

found_from : (vs : List Version) (i n : ℕ) → i + n ≡ length vs → filter_map (λ k. slice_get vs k) (range_with_len i n) ≡ drop i vs
found_from vs i zero e = sym (drop_all i vs (omega arith))
found_from vs i (suc n) e = rw (slice_get-get_or vs i none (omega arith), found_from vs (i + 1) n (omega arith)) (sym (drop_more vs i none (omega arith)))

folds_largest : (vs : List Version) (n : ℕ) → fold max n (map (λ (v : Version). max v.twrite v.tread) vs) ≡ max n (largest vs)
folds_largest [] n = omega arith
folds_largest (v ∷ vs) n = folds_largest vs (max n (max v.twrite v.tread)) ∙ omega arith

pub found_largest : (vs : List Version) → largest_found vs ≡ largest vs
found_largest vs =
    ap (λ (us : List Version). fold max 0 (map (λ (v : Version). max v.twrite v.tread) us)) (found_from vs 0 (length vs) (omega arith)) ∙ folds_largest vs 0 ∙ omega arith
