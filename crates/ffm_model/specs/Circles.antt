-- Circles of a graph with numbered places, and the first of them.
-- Source: of this repository; the rule that partitions don't depend on each other in a circle is stated with it.
-- That `first_circle` is the circle which comes before all others is a law in crate dependency_circle (`IsFirstCircle`).
use Rattle.std.specs.Prelude.{ℕ, zero, suc, ◌==◌, nat_lt, Bool, true, false, not, ◌&&◌, List, [], ◌∷◌, Option, map, find}
use Rattle.std.specs.List.{list_any, flat_map, range_with_len}

-- x is none of xs
abbrev pub is_new : ℕ → List ℕ → Bool
is_new x xs = not (list_any (λ y. x == y) xs)

-- no place stands twice
abbrev pub are_different : List ℕ → Bool
are_different [] = true
are_different (x ∷ xs) = is_new x xs && are_different xs

-- from x through places below n, each with an edge to the next, and from the last one home
abbrev pub is_way : ℕ → (ℕ → ℕ → Bool) → ℕ → ℕ → List ℕ → Bool
is_way n edge home x [] = edge x home
is_way n edge home x (y ∷ ys) = nat_lt y n && (edge x y && is_way n edge home y ys)

-- different places below n, each with an edge to the next, and the last with one to the first
abbrev pub is_circle : ℕ → (ℕ → ℕ → Bool) → List ℕ → Bool
is_circle n edge [] = false
is_circle n edge (x ∷ xs) = nat_lt x n && (are_different (x ∷ xs) && is_way n edge x x xs)

-- all lists of at most k places below n, in order: compared place by place, and a list before the longer ones that begin with it
abbrev pub lists_up_to : ℕ → ℕ → List (List ℕ)
lists_up_to n zero = [] ∷ []
lists_up_to n (suc k) = [] ∷ flat_map (λ x. map (λ xs. x ∷ xs) (lists_up_to n k)) (range_with_len 0 n)

-- the first list that is a circle; a circle of places below n has at most n of them
abbrev pub first_circle : ℕ → (ℕ → ℕ → Bool) → Option (List ℕ)
first_circle n edge = find (is_circle n edge) (lists_up_to n n)
