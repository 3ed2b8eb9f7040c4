-- Steps that a table lists.
-- Source: this crate's.
use Rattle.std.specs.Prelude.{◌≡◌, ℕ, ◌<◌, ◌==◌, ◌&&◌, List, [], ◌∷◌, Option, Some, None, length, slice_index, find}
use Rattle.std.specs.Option.{option_map}
use Rattle.state_graph.specs.Walks.{Bytes, Moves}

-- a row: from a state of one byte, by an action, to another one
abbrev pub Row : Type 0
Row = ℕ × ℕ × ℕ

-- where the first row that fits leads to
abbrev pub target_of : List Row → ℕ → ℕ → Option ℕ
target_of rows from action = option_map (λ r. r.2) (find (λ r. (r.0 == from) && (r.1 == action)) rows)

abbrev pub Leads : Option ℕ → Bytes → Type 0
Leads (Some target) t = t ≡ target ∷ []
Leads None t = ⊥

abbrev pub moves_of : ℕ × List Row → Moves
moves_of x = record {
  is_state = λ s. length s ≡ 1;
  leads = λ s a t. (a < x.0) × Leads (target_of x.1 (slice_index s 0) a) t;
  none = λ s a. target_of x.1 (slice_index s 0) a ≡ None;
  count = x.0;
}
