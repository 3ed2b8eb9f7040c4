-- The turns of a scheduled run: which actor makes the next entry.
-- Source: this simulator's. FF-M 1.0 leaves the order of partitions and clients open.
use Rattle.std.specs.Prelude.{ℕ, ◌+◌, ◌-◌, ◌%◌, ◌≡◌, ◌<◌, ◌≤◌, nat_lt, Bool, true, false, List, [], ◌∷◌, length, get_or, Some, Option, if◌then◌else◌}
use Rattle.std.specs.Option.{option_map_or}
use Rattle.ffm_model.specs.declared.system.System.{System}
use Rattle.ffm_model.specs.declared.machine.ActorId.{ActorId}
use Rattle.ffm_model.specs.declared.machine.Entry.{Entry}
use Rattle.ffm_model.specs.Actors.{actor_count}
use Rattle.ffm_model.specs.Memory.{ByteMap}
use Rattle.ffm_model.specs.State.{State, opening}
use Rattle.ffm_model.specs.Signals.{enabled}
use Rattle.ffm_model.specs.Step.{step_on}

-- whose turn is turn t, from 0: the turns are those of the schedule, then of all actors round and round
abbrev pub turn_at : System → List ActorId → ℕ → ℕ
turn_at s schedule t =
    if nat_lt t (length schedule)
    then (get_or schedule t (record { 0 = 0 })).0
    else (t - length schedule) % actor_count s

abbrev pub enabled_in : System → Option State → ℕ → Bool
enabled_in s st a = option_map_or (λ x. enabled s x.spm a) st false

-- turn u is the first one from turn t on whose actor is enabled
pub record IsNext (s : System) (schedule : List ActorId) (st : Option State) (t u : ℕ) : Type 0 where
  pub from : t ≤ u
  pub on : enabled_in s st (turn_at s schedule u) ≡ true
  pub passed : (w : ℕ) → t ≤ w → w < u → enabled_in s st (turn_at s schedule w) ≡ false

-- from a state and turn t on, each entry is made in the next turn of an enabled actor; turn `end` comes after the last one
abbrev pub Turns : System → List ActorId → Option State → ℕ → List Entry → ℕ → Type 0
Turns s schedule st t [] end = end ≡ t
Turns s schedule st t (e ∷ es) end =
    (u : ℕ) × IsNext s schedule st t u × (e.actor.0 ≡ turn_at s schedule u) × Turns s schedule (step_on s st e) (u + 1) es end

-- the entries were made in the turns of the schedule, from the opening on
abbrev pub Scheduled : System → ByteMap → List ActorId → List Entry → Type 0
Scheduled s memory schedule es = (end : ℕ) × Turns s schedule (Some (opening s memory)) 0 es end
