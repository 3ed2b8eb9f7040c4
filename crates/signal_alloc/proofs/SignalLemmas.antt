-- Different places have different signals.
use Rattle.std.proofs.Common.{ℕ, ◌≡◌, ◌<◌, ◌⊎◌, inl, inr, arith, sym}
use Rattle.std.proofs.Math.Pow.{pow-lt}
use Rattle.std.proofs.lemmas.Bool.{cases_eq}
use Rattle.ffm_model.specs.Compiled.{signal_at}

lower_signal : (a b : ℕ) → a < b → signal_at a ≡ signal_at b → ⊥
lower_signal a b h e =
    let below : signal_at a < signal_at b = pow-lt (omega (arith, h)) in omega (arith, below, e)

pub same_place : (a b : ℕ) → signal_at a ≡ signal_at b → a ≡ b
same_place a b e = by (cases_eq a b)
  where
    differ : (a ≡ b → ⊥) → (a < b) ⊎ (b < a)
    differ ne = grind (arith, ne)

    order : (a < b) ⊎ (b < a) → a ≡ b
    order (inl h) = absurd (lower_signal a b h e)
    order (inr h) = absurd (lower_signal b a h (sym e))

    by : (a ≡ b) ⊎ (a ≡ b → ⊥) → a ≡ b
    by (inl same) = same
    by (inr ne) = order (differ ne)
