-- A list whose items were changed in their places.
use Rattle.std.specs.Prelude.{List, ◌++◌, length, take, drop}

-- as many items as before, those of the new list first
abbrev pub overwritten : {X : Type 0} → List X → List X → List X
overwritten xs w = take (length xs) (w ++ drop (length w) xs)
