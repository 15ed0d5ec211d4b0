-- A version comes back from its bytes, once, over the width of a value. Assumes nothing.
use Rattle.std.proofs.Common.{◌≡◌, ℕ, ◌^◌, ◌<◌, ◌++◌, length, take, drop, sym, ap, ◌∙◌}
use Rattle.std.proofs.lemmas.List.{length-append, take_at, drop_at, drop-drop}
use Rattle.store.specs.declared.Version.{Version}
use Rattle.store.specs.Bytes.{bytes_of, number_in}
use Rattle.store.specs.Packed.{size_with, packed_with, unpacked_with}
use Rattle.store.proofs.Numbers.{length_bytes_of, number_in_bytes_of}

pub length_packed_with : (width : ℕ) (v : Version) → length (packed_with width v) ≡ size_with width
length_packed_with width v = simp (length-append, length_bytes_of)

pub record Fits (width : ℕ) (v : Version) : Type 0 where
  pub value : v.value < 256 ^ width
  pub twrite : v.twrite < 256 ^ 8
  pub tread : v.tread < 256 ^ 8

same : (v : Version) (a b c : ℕ) → a ≡ v.value → b ≡ v.twrite → c ≡ v.tread → ◌≡◌ {A = Version} (record { value = a; twrite = b; tread = c }) v
same v a b c p q r = rw (p, q, r)

pub unpacked_packed : (width : ℕ) (v : Version) → Fits width v → unpacked_with width (packed_with width v) ≡ v
unpacked_packed width v fits =
    let a = bytes_of width v.value in
    let b = bytes_of 8 v.twrite in
    let c = bytes_of 8 v.tread in
    let rest : drop width (packed_with width v) ≡ b ++ c = drop_at a (b ++ c) width (length_bytes_of width v.value) in
    same v _ _ _
    (ap number_in (take_at a (b ++ c) width (length_bytes_of width v.value)) ∙ number_in_bytes_of width v.value fits.value)
    (ap (λ l. number_in (take 8 l)) rest ∙ ap number_in (take_at b c 8 (length_bytes_of 8 v.twrite)) ∙ number_in_bytes_of 8 v.twrite fits.twrite)
    (ap (λ l. number_in (take 8 l)) (sym (drop-drop 8 width (packed_with width v)) ∙ ap (drop 8) rest) ∙ number_in_bytes_of 8 v.tread fits.tread)
