-- The two kinds of token.
use Rattle.std.specs.Prelude.{ℕ, Bool, ◌&&◌, ◌==◌}
use Rattle.queue.specs.Tokens.{Tells}
use Rattle.service.specs.declared.tokens.Certified.{Certified}

-- a certified read leaves nothing, and a certified write its value
abbrev pub ReadToken : Type 0
ReadToken = Certified (Unit {0})

abbrev pub WriteToken : Type 0
WriteToken = Certified ℕ

module _ {V : Type 0} where
  abbrev pub certified_tells : Tells (Certified V)
  certified_tells = record { item = λ (k : Certified V). k.item; stamp = λ (k : Certified V). k.stamp }

  -- whether that tool had it certified under that stamp
  abbrev pub is_of : ℕ → ℕ → Certified V → Bool
  is_of t st k = k.tool == t && k.stamp == st
