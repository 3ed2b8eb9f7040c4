-- What the rules of a system and the sizes of its regions say.
use Rattle.std.proofs.Common.{ℕ, ◌≡◌, ◌≤◌, Bool, true, false, [], arith, refl}
use Rattle.ffm_model.specs.Layout.{rounded}
use Rattle.ffm_model.specs.Repeats.{only_if}

-- a rule that refuses nothing isn't broken
pub only_if_nil : {A : Type 0} (b : Bool) (x : A) → only_if b x ≡ [] → b ≡ false
only_if_nil true x e = absurd cc
only_if_nil false x e = refl

-- a rounded size is at least the size
pub rounded_up : (n : ℕ) → n ≤ rounded n
rounded_up n = omega arith
