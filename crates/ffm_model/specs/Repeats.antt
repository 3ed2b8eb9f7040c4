-- Items of a list that an earlier item repeats.
-- Source: of this repository; the rules on a system's names and SIDs are stated with it.
use Rattle.std.specs.Prelude.{Bool, List, [], ◌∷◌, ◌++◌, Option, Some, None, if◌then◌else◌}
use Rattle.std.specs.List.{list_any}

-- the first item of a list, where there is one
abbrev pub first : {A : Type 0} → List A → Option A
first [] = None
first (x ∷ xs) = Some x

-- x alone where the test holds, and else nothing
abbrev pub only_if : {A : Type 0} → Bool → A → List A
only_if b x = if b then x ∷ [] else []

-- the items after `front` that an earlier one is the same as
abbrev pub repeated_after : {A : Type 0} → (A → A → Bool) → List A → List A → List A
repeated_after same front [] = []
repeated_after same front (x ∷ xs) = only_if (list_any (λ y. same y x) front) x ++ repeated_after same (front ++ x ∷ []) xs

-- the items that an earlier one is the same as
abbrev pub repeated : {A : Type 0} → (A → A → Bool) → List A → List A
repeated same xs = repeated_after same [] xs
