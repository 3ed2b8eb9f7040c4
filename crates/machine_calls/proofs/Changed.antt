-- A list whose items are changed, one by one.
use Rattle.std.proofs.Common.{ℕ, ◌≡◌, ◌<◌, ◌+◌, ◌++◌, List, length, map, set, take, drop, get_or, arith, ap, ◌∙◌}
use Rattle.std.proofs.lemmas.List.{get_or_default}
use Rattle.std.proofs.lemmas.List.Edits.{map_over_more}

-- one more item is changed
pub map_step : {X : Type 0} (f : X → X) (xs ys : List X) (i : ℕ) (x y : X) → i < length xs → length ys ≡ length xs → ys ≡ map f (take i xs) ++ drop i xs → y ≡ f (get_or ys i x)
    → set ys i y ≡ map f (take (i + 1) xs) ++ drop (i + 1) xs
map_step f xs ys i x y below same so_far is =
    let there : i < length ys = omega arith in
    ap (set ys i) is ∙ map_over_more f xs ys i (get_or ys i x) below so_far (get_or_default ys i x (get_or ys i x) there)
