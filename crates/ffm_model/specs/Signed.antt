-- Numbers below 0, as the standard's headers write them.
-- Source: this simulator's.
use Rattle.std.specs.Prelude.{ℕ, zero, suc, ℤ, pos, negsuc}

abbrev pub minus : ℕ → ℤ
minus zero = pos 0
minus (suc n) = negsuc n
