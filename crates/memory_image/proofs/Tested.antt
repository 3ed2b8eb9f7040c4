-- A fact of each item as a test of all.
use Rattle.std.proofs.Common.{◌≡◌, Bool, true, List, [], ◌∷◌, refl}
use Rattle.std.specs.Prelude.{IsTrue}
use Rattle.std.specs.List.{list_all, AllByRecursion}

pub list_all-each : {X : Type 0} (p : X → Bool) (xs : List X) → AllByRecursion (λ x. IsTrue (p x)) xs → list_all p xs ≡ true
list_all-each p [] h = refl
list_all-each p (x ∷ xs) h = rw (h.0, list_all-each p xs h.1) refl
