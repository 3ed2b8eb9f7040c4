-- Graphs that are given by their edges, for worked cases.
use Rattle.std.specs.Prelude.{ℕ, ◌==◌, ◌&&◌, Bool, List}
use Rattle.std.specs.List.{list_any}

-- whether the pair of places is one of the edges
abbrev pub joined : List (ℕ × ℕ) → ℕ → ℕ → Bool
joined edges from to = list_any (λ e. (e.0 == from) && (e.1 == to)) edges
