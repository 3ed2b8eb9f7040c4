-- What a scheduled run keeps, turn after turn, and what it gives.
-- Source: this simulator's.
use Rattle.std.specs.Prelude.{ℕ, ◌≡◌, ◌≢◌, ◌<◌, ◌≤◌, Bool, true, false, List, [], ◌∷◌, ◌++◌, length, get_or, Some, IsSome, Result, Ok, Err}
use Rattle.ffm_model.specs.declared.machine.ActorId.{ActorId}
use Rattle.ffm_model.specs.declared.machine.Entry.{Entry}
use Rattle.ffm_model.specs.declared.machine.Outcome.{Outcome}
use Rattle.ffm_model.specs.declared.script.Instruction.{Instruction}
use Rattle.ffm_model.specs.declared.system.ActorKind.{ActorKind}
use Rattle.ffm_model.specs.declared.system.System.{System}
use Rattle.ffm_model.specs.Actors.{actor_count, kind_of}
use Rattle.ffm_model.specs.Records.{entries_of, outcomes_of}
use Rattle.ffm_model.specs.Schedule.{Scheduled, Turns, enabled_in, turn_at}
use Rattle.ffm_model.specs.Plans.{PlanRun}
use Rattle.ffm_model.specs.State.{opening}
use Rattle.ffm_model.specs.Verdicts.{verdict_of}
use Rattle.memory_image.specs.Pieces.{byte_at}
use Rattle.spm_core.specs.Manager.{Opening, Managed, state_after}
use Rattle.partition_sim.specs.declared.scheduled.Over.{Over}
use Rattle.partition_sim.specs.declared.runner.Runner.{Runner}
use Rattle.partition_sim.specs.declared.runner.Runner.TheVariants.{Client}
use Rattle.partition_sim.specs.ActorPlans.{Role, parts_at, plan_at, plan_of_role}
use Rattle.partition_sim.specs.Standing.{Follows}

-- only a non-secure client has several contexts
abbrev pub HaveContexts : System → List (List (List Instruction)) → Type 0
HaveContexts s scripts = (a : ℕ) → a < actor_count s → kind_of s a ≢ ActorKind.Client → length (parts_at scripts a) ≡ 1

-- stands for a runner that isn't there
abbrev pub no_runner : Runner
no_runner = Client (record { contexts = []; desk = record { count = 0; turn = 0 }; caller = 0; waiting = false })

abbrev pub runner_at : List Runner → ℕ → Runner
runner_at runners a = get_or runners a no_runner

-- the outcomes that an actor was answered
abbrev pub outcomes_at : List Entry → ℕ → List Outcome
outcomes_at history a = outcomes_of (entries_of a history)

-- the runner has seen these outcomes of an actor of a system, in a role in which it calls as the actor's plan says
pub record Serves (s : System) (scripts : List (List (List Instruction))) (a : ℕ) (outcomes : List Outcome) (r : Runner) : Type 0 where
  pub role : Role
  pub plan : (os : List Outcome) → plan_of_role role (parts_at scripts a) os ≡ plan_at s scripts a os
  pub follows : Follows role (parts_at scripts a) outcomes r

-- runners of the first actors, that have seen nothing
pub record AreNew (s : System) (scripts : List (List (List Instruction))) (count : ℕ) (runners : List Runner) : Type 0 where
  pub long : length runners ≡ count
  pub each : (a : ℕ) → a < count → Serves s scripts a [] (runner_at runners a)

-- ---- one turn

-- each runner has seen its actor's outcomes, and each actor's entries are a run of its plan
pub record Driving (scripts : List (List (List Instruction))) (o : Opening) (history : List Entry) (runners : List Runner) : Type 0 where
  pub scripts_long : length scripts ≡ actor_count o.system
  pub runners_long : length runners ≡ actor_count o.system
  pub serves : (a : ℕ) → a < actor_count o.system → Serves o.system scripts a (outcomes_at history a) (runner_at runners a)
  pub runs : (a : ℕ) → a < actor_count o.system → PlanRun (plan_at o.system scripts a) (entries_of a history)

-- an enabled actor made an entry
pub record MadeOne (o : Opening) (old : List Entry) (a : ℕ) (new : List Entry) (e : Entry) : Type 0 where
  pub on : enabled_in o.system (state_after o old) a ≡ true
  pub actor : e.actor.0 ≡ a
  pub added : new ≡ old ++ e ∷ []
  pub room : length old < o.limit
  pub is_state : IsSome (state_after o new)

-- the actor isn't enabled, and made none
pub record PassedOne (o : Opening) (old : List Entry) (a : ℕ) (new : List Entry) : Type 0 where
  pub off : enabled_in o.system (state_after o old) a ≡ false
  pub unchanged : new ≡ old

-- the run has its verdict
pub record IsOver (o : Opening) (old new : List Entry) : Type 0 where
  pub verdict : IsSome (verdict_of o.system (byte_at o.memory) o.limit old)
  pub unchanged : new ≡ old

-- what came of a turn: whether it made an entry, or the run is over
abbrev pub Turned : Opening → List Entry → ℕ → Result Bool Over → List Entry → Type 0
Turned o old a (Ok true) new = (e : Entry) × MadeOne o old a new e
Turned o old a (Ok false) new = PassedOne o old a new
Turned o old a (Err over) new = IsOver o old new

-- ---- all turns

-- the entries are in order up to turn t: turn `end` comes after the last one, and from there no turn before t has an enabled actor
pub record InOrder (schedule : List ActorId) (o : Opening) (history : List Entry) (t : ℕ) : Type 0 where
  pub end : ℕ
  pub turns : Turns o.system schedule (Some (opening o.system (byte_at o.memory))) 0 history end
  pub behind : end ≤ t
  pub passed : (w : ℕ) → end ≤ w → w < t → enabled_in o.system (state_after o history) (turn_at o.system schedule w) ≡ false

-- the run of a manager, which began with this opening, comes to turn t
pub record Underway (scripts : List (List (List Instruction))) (schedule : List ActorId) (o : Opening) (m : Managed) (runners : List Runner) (t : ℕ) : Type 0 where
  pub same : m.opening ≡ o
  pub driving : Driving scripts m.opening m.history runners
  pub in_order : InOrder schedule m.opening m.history t
  pub is_state : IsSome (state_after m.opening m.history)
  pub short : length m.history ≤ m.opening.limit

-- a whole scheduled run
pub record IsDriven (scripts : List (List (List Instruction))) (schedule : List ActorId) (o : Opening) (history : List Entry) : Type 0 where
  pub scheduled : Scheduled o.system (byte_at o.memory) schedule history
  pub runs : (a : ℕ) → a < actor_count o.system → PlanRun (plan_at o.system scripts a) (entries_of a history)
  pub ended : IsSome (verdict_of o.system (byte_at o.memory) o.limit history)
