-- Tests that are joined, and choices by a test.
use Rattle.std.proofs.Common.{◌≡◌, Bool, true, false, cond, ◌||◌, refl}
use Rattle.std.specs.Prelude.{Some, None, IfSome, if◌then◌else◌}

pub or_false : (b : Bool) → (b || false) ≡ b
or_false true = refl
or_false false = refl

-- where the first test fails, the other holds
pub or_rest : (a b : Bool) → a ≡ false → (a || b) ≡ true → b ≡ true
or_rest true b e h = cc
or_rest false b e h = h

-- what holds of a value where the test passes, holds of what is chosen
pub if_passes : {X : Type 0} (P : X → Type 0) (b : Bool) (x : X) → (b ≡ true → P x) → IfSome (cond b (Some x) None) P
if_passes P true x h = h refl
if_passes P false x h = tt

-- the same where it is chosen when the test fails
pub if_fails : {X : Type 0} (P : X → Type 0) (b : Bool) (x : X) → (b ≡ false → P x) → IfSome (if b then None else Some x) P
if_fails P true x h = tt
if_fails P false x h = h refl
