-- Ways home, by which a circle is found: what the steps of the search find out.
use Rattle.std.specs.Prelude.{◌≡◌, slice_index_or, length, ℕ, ◌==◌, ◌&&◌, ◌||◌, ◌<◌, not, nat_lt, Bool, true, false, List, [], ◌∷◌, ◌++◌, Option, Some, None}
use Rattle.std.specs.List.{list_any, list_all}
use Rattle.ffm_model.specs.Circles.{is_circle, is_way, is_new, are_different}

-- some circle begins with c
pub record Begins (n : ℕ) (edge : ℕ → ℕ → Bool) (c : List ℕ) : Type 0 where
  pub rest : List ℕ
  pub circle : is_circle n edge (c ++ rest) ≡ true

-- the least place that comes next in a circle that begins with `front`
abbrev pub IsNext : ℕ → (ℕ → ℕ → Bool) → List ℕ → Option ℕ → Type 0
IsNext n edge front (Some k) = Begins n edge (front ++ k ∷ []) × ((j : ℕ) → j < k → ¬ Begins n edge (front ++ j ∷ []))
IsNext n edge front None = (j : ℕ) → ¬ Begins n edge (front ++ j ∷ [])

-- no place of zs stands in front
abbrev pub are_apart : List ℕ → List ℕ → Bool
are_apart front zs = list_all (λ z. is_new z front) zs

-- a way from x home, by different places that are none of front
pub record Homeward (n : ℕ) (edge : ℕ → ℕ → Bool) (home : ℕ) (front : List ℕ) (x : ℕ) : Type 0 where
  pub rest : List ℕ
  pub way : is_way n edge home x rest ≡ true
  pub different : are_different (x ∷ rest) ≡ true
  pub apart : are_apart front (x ∷ rest) ≡ true

-- edges go from x through each of ys to k, which are places below n
abbrev pub goes : ℕ → (ℕ → ℕ → Bool) → ℕ → List ℕ → ℕ → Bool
goes n edge x [] k = nat_lt k n && edge x k
goes n edge x (y ∷ ys) k = nat_lt y n && (edge x y && goes n edge y ys k)

-- x is one of xs
abbrev pub marked : List ℕ → ℕ → Bool
marked xs x = list_any (λ y. x == y) xs

-- x has no mark, and an edge to y
abbrev pub is_unmarked_before : List Bool → (ℕ → ℕ → Bool) → ℕ → ℕ → Bool
is_unmarked_before marks edge y x = not (slice_index_or marks x false) && edge x y

-- the new marks have also a mark at each place with an edge to y
pub record MarksMore (n : ℕ) (edge : ℕ → ℕ → Bool) (y : ℕ) (old new : List Bool) : Type 0 where
  pub len : length new ≡ n
  pub told : (x : ℕ) → x < n → slice_index_or new x false ≡ (slice_index_or old x false || edge x y)

-- the marks tell which places are found or stand in front
pub record IsMarked (n : ℕ) (front found : List ℕ) (marks : List Bool) : Type 0 where
  pub len : length marks ≡ n
  pub told : (x : ℕ) → x < n → slice_index_or marks x false ≡ (marked found x || not (is_new x front))

-- which places outside of front have a way home
pub record TellsWays (n : ℕ) (edge : ℕ → ℕ → Bool) (home : ℕ) (front : List ℕ) (marks : List Bool) : Type 0 where
  pub len : length marks ≡ n
  pub found : (x : ℕ) → x < n → is_new x front ≡ true → slice_index_or marks x false ≡ true → Homeward n edge home front x
  pub all : (x : ℕ) → x < n → Homeward n edge home front x → slice_index_or marks x false ≡ true
