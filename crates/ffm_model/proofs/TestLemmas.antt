-- Tests of the items of a list.
use Rattle.std.proofs.Common.{ℕ, zero, suc, ◌≡◌, ◌<◌, Bool, true, List, [], ◌∷◌, length, get_or, arith}
use Rattle.std.specs.List.{list_all}
use Rattle.std.proofs.lemmas.Bool.{and_parts}

-- a test of all holds of one
pub holds_at : {X : Type 0} (p : X → Bool) (xs : List X) (i : ℕ) (d : X) → i < length xs → list_all p xs ≡ true → p (get_or xs i d) ≡ true
holds_at p [] i d below h = absurd (omega arith)
holds_at p (x ∷ xs) zero d below h = (and_parts _ _ h).0
holds_at p (x ∷ xs) (suc i) d below h = let inside : i < length xs = omega arith in holds_at p xs i d inside (and_parts _ _ h).1
