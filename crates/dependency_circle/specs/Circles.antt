-- The first circle of a graph, which is named where partitions depend on each other in a circle.
-- Source: this profile's rule on the dependencies of FF-M 1.0 manifests; which circle is named is this profile's choice.
-- A graph is a number of places, and a test of each ordered pair of places: whether an edge goes from the first to the second.
use Rattle.std.specs.Prelude.{◌≡◌, ℕ, ◌==◌, ◌&&◌, ◌||◌, nat_lt, Bool, true, false, List, [], ◌∷◌, Option, Some, None}
use Rattle.ffm_model.specs.Circles.{is_circle}

-- ---- the order of lists

-- c comes no later than d: compared place by place, a list before the longer ones that begin with it
abbrev pub is_not_after : List ℕ → List ℕ → Bool
is_not_after [] d = true
is_not_after (x ∷ c) [] = false
is_not_after (x ∷ c) (y ∷ d) = nat_lt x y || ((x == y) && is_not_after c d)

-- c is the first of all circles
pub record IsFirstCircle (n : ℕ) (edge : ℕ → ℕ → Bool) (c : List ℕ) : Type 0 where
  pub circle : is_circle n edge c ≡ true
  pub least : (d : List ℕ) → is_circle n edge d ≡ true → is_not_after c d ≡ true

-- the first circle, or nothing where no list is a circle
abbrev pub AnswersCircle : ℕ → (ℕ → ℕ → Bool) → Option (List ℕ) → Type 0
AnswersCircle n edge (Some c) = IsFirstCircle n edge c
AnswersCircle n edge None = (d : List ℕ) → is_circle n edge d ≡ false
