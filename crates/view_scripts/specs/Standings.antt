-- Where an actor's script stands after the actor's entries, or the first entry that the script doesn't call.
-- Source: this simulator's; what a script calls next is what it calls in a run.
use Rattle.std.specs.Prelude.{ℕ, ◌≡◌, ◌<◌, ◌+◌, ◌==◌, nat_lt, Bool, true, false, if◌then◌else◌, List, [], ◌∷◌, ◌++◌, length, get_or, Option, Some, None}
use Rattle.std.specs.Option.{option_map_or}
use Rattle.ffm_model.specs.declared.machine.Call.{Call}
use Rattle.ffm_model.specs.declared.machine.Call.TheVariants as call
use Rattle.ffm_model.specs.declared.machine.Entry.{Entry}
use Rattle.ffm_model.specs.declared.machine.Outcome.{Outcome}
use Rattle.ffm_model.specs.declared.machine.Outcome.TheVariants as outcome
use Rattle.ffm_model.specs.declared.system.System.{System}
use Rattle.ffm_model.specs.Contexts.{context_engine, context_plan, opening_contexts}
use Rattle.ffm_model.specs.Held.{Holder, holder_of}
use Rattle.ffm_model.specs.HeldPlans.{held_engine, held_plan, holding_none}
use Rattle.ffm_model.specs.Plans as plans
use Rattle.ffm_model.specs.Plans.{Plan, PlanRun, engine_after, engine_answered}
use Rattle.ffm_model.specs.Records.{entries_of, outcomes_of}
use Rattle.ffm_model.specs.ScriptRuns.{only_part}
use Rattle.packed_state.specs.declared.engine.Engine.{Engine}
use Rattle.packed_state.specs.declared.engine.Engine.TheVariants as engine
use Rattle.script_points.specs.Points.{AreContexts, Parts}
use Rattle.view_scripts.specs.declared.standing.End.{End}
use Rattle.view_scripts.specs.declared.standing.End.TheVariants.{Stopped, Spent, Panicked}
use Rattle.view_scripts.specs.declared.standing.Standing.{Standing}
use Rattle.view_scripts.specs.declared.standing.Standing.TheVariants.{Follows, Ended, Left}

-- what an actor calls next by its script: a partition by the messages that it holds, any other by its contexts
abbrev pub plan_by : Bool → Holder → Parts → Plan
plan_by true p parts = held_plan p (only_part parts)
plan_by false p parts = context_plan parts

-- the script goes on here after these outcomes
abbrev pub GoesOnAt : Bool → Holder → Parts → List Outcome → Engine → Type 0
GoesOnAt true p parts os (engine.Holding x) = x ≡ engine_after (held_engine p (only_part parts)) holding_none os
GoesOnAt true p parts os (engine.Turning x) = ⊥
GoesOnAt false p parts os (engine.Holding x) = ⊥
GoesOnAt false p parts os (engine.Turning x) = x ≡ engine_after (context_engine parts) (opening_contexts parts) os

-- how an entry ends its actor, where it does
abbrev pub end_by : Outcome → Call → Option End
end_by outcome.Panicked c = Some Panicked
end_by o (call.Stop true) = Some Spent
end_by o (call.Stop false) = Some Stopped
end_by o c = None

-- how an actor has ended by its entries, where it has
unfoldable pub end_of : ℕ → List Entry → Option End
end_of a [] = None
end_of a (e ∷ es) = if e.actor.0 == a then option_map_or (λ end. Some end) (end_by e.outcome e.call) (end_of a es) else end_of a es

-- the entry at a place, from 1, is the actor's first whose call isn't the plan's
pub record LeavesAt (plan : Plan) (a : ℕ) (es : List Entry) (place : ℕ) : Type 0 where
  pub before : List Entry
  pub entry : Entry
  pub later : List Entry
  pub are : es ≡ before ++ entry ∷ later
  pub at : place ≡ length before + 1
  pub own : entry.actor.0 ≡ a
  pub follows : PlanRun plan (entries_of a before)
  pub differs : entry.call ≡ plan (outcomes_of (entries_of a before)) → ⊥

-- all entries of the actor are a run of its plan, and the script goes on there or the actor has ended; or it left the plan there
abbrev pub IsStandingOf : Bool → Holder → Parts → ℕ → List Entry → Standing → Type 0
IsStandingOf is_partition p parts a es (Follows at) =
    PlanRun (plan_by is_partition p parts) (entries_of a es) × GoesOnAt is_partition p parts (outcomes_of (entries_of a es)) at
IsStandingOf is_partition p parts a es (Ended end) = PlanRun (plan_by is_partition p parts) (entries_of a es) × (end_of a es ≡ Some end)
IsStandingOf is_partition p parts a es (Left place) = LeavesAt (plan_by is_partition p parts) a es place

-- it goes on only where its actor hasn't ended
abbrev pub IsOpen : ℕ → List Entry → Standing → Type 0
IsOpen a es (Follows at) = end_of a es ≡ None
IsOpen a es (Ended end) = Unit {0}
IsOpen a es (Left place) = Unit {0}

abbrev pub IsStanding : System → ℕ → Parts → List Entry → Standing → Type 0
IsStanding s a parts es standing = IsStandingOf (nat_lt a (length s.partitions)) (holder_of s a) parts a es standing × IsOpen a es standing

-- stands for one that isn't there
abbrev pub no_standing : Standing
no_standing = Left 0

-- one for each script
pub record AreStandings (s : System) (scripts : List Parts) (es : List Entry) (standings : List Standing) : Type 0 where
  pub long : length standings ≡ length scripts
  pub each : (a : ℕ) → a < length scripts → IsStanding s a (get_or scripts a []) es (get_or standings a no_standing)

-- one entry against an engine, where a call waits for its return or none does: it is taken where its call is due, and the engine goes on with its outcome
abbrev pub IsTaken : {X : Type 0} → plans.Engine X → X → Bool → Entry → X → Bool → Type 0
IsTaken m x pending e y true = (e.call ≡ (if pending then call.Resume else m.call x)) × (y ≡ engine_answered m e.outcome x)
IsTaken m x pending e y false = e.call ≡ (if pending then call.Resume else m.call x) → ⊥

-- it is an engine of a partition, or has a point for each context of an actor's script, if there is one
abbrev pub IsEngineOf : System → ℕ → Parts → Engine → Type 0
IsEngineOf s a parts (engine.Holding x) = a < length s.partitions
IsEngineOf s a parts (engine.Turning x) = 0 < length parts → AreContexts parts x

-- so that its rows can be told
abbrev pub IsShown : System → ℕ → Parts → Standing → Type 0
IsShown s a parts (Follows at) = IsEngineOf s a parts at
IsShown s a parts (Ended end) = Unit {0}
IsShown s a parts (Left place) = Unit {0}

abbrev pub AreShown : System → List Parts → List Standing → Type 0
AreShown s scripts standings = (a : ℕ) → a < length standings → IsShown s a (get_or scripts a []) (get_or standings a no_standing)
