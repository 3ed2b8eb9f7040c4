-- Texts that were appended one after the other.
use Rattle.std.proofs.Common.{ℕ, ◌≡◌, ◌++◌, ◌∙◌, List, ap, append_assoc}

-- two texts
pub step : (t t₁ t₂ x y : List ℕ) → t₁ ≡ t ++ x → t₂ ≡ t₁ ++ y → t₂ ≡ t ++ (x ++ y)
step t t₁ t₂ x y one two = two ∙ ap (λ (u : List ℕ). u ++ y) one ∙ append_assoc t x y
