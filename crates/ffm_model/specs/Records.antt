-- What one actor made of a run: its entries, and whether its last call still waits for its return.
-- Source: this simulator's.
use Rattle.std.specs.Prelude.{ℕ, ◌==◌, Bool, true, false, List, [], ◌∷◌, filter, map}
use Rattle.ffm_model.specs.declared.machine.Entry.{Entry}
use Rattle.ffm_model.specs.declared.machine.Outcome.{Outcome}
use Rattle.ffm_model.specs.declared.machine.Outcome.TheVariants as outcome

-- the entries of an actor, in order
abbrev pub entries_of : ℕ → List Entry → List Entry
entries_of a es = filter (λ e. e.actor.0 == a) es

abbrev pub outcomes_of : List Entry → List Outcome
outcomes_of es = map (λ e. e.outcome) es

abbrev pub is_blocked_outcome : Outcome → Bool
is_blocked_outcome outcome.Blocked = true
is_blocked_outcome _ = false

-- the last outcome is Blocked, so the next event is the return
unfoldable pub ends_blocked : List Outcome → Bool
ends_blocked [] = false
ends_blocked (o ∷ []) = is_blocked_outcome o
ends_blocked (o ∷ p ∷ os) = ends_blocked (p ∷ os)
