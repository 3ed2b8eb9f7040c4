-- What an actor calls next, after the outcomes of its calls so far; and when its entries are a run of that.
-- Source: this simulator's. The machine doesn't know why an actor makes a call: it may run a script, or several, or keep a table of its own.
use Rattle.std.specs.Prelude.{◌≡◌, Bool, true, false, List, [], ◌∷◌, ◌++◌, if◌then◌else◌}
use Rattle.ffm_model.specs.declared.machine.Entry.{Entry}
use Rattle.ffm_model.specs.declared.machine.Call.{Call}
use Rattle.ffm_model.specs.declared.machine.Call.TheVariants as call
use Rattle.ffm_model.specs.declared.machine.Outcome.{Outcome}
use Rattle.ffm_model.specs.Records.{is_blocked_outcome, ends_blocked}

-- the next call after the outcomes
abbrev pub Plan : Type 0
Plan = List Outcome → Call

-- the call ends the actor
abbrev pub is_stop : Call → Bool
is_stop (call.Stop spent) = true
is_stop _ = false

-- from these outcomes on, each call is the plan's after the outcomes before it
abbrev pub RunFrom : Plan → List Outcome → List Entry → Type 0
RunFrom plan os [] = Unit {0}
RunFrom plan os (e ∷ es) = (e.call ≡ plan os) × RunFrom plan (os ++ e.outcome ∷ []) es

-- an actor's entries are a run of its plan
abbrev pub PlanRun : Plan → List Entry → Type 0
PlanRun plan es = RunFrom plan [] es

-- ---- engines

-- a state, the call that it makes next, and the state after the call's outcome
pub record Engine (X : Type 0) : Type 0 where
  pub call : X → Call
  pub behind : Outcome → X → X

-- a blocked call stays open: the outcome of its return counts as the call's
abbrev pub engine_answered : {X : Type 0} → Engine X → Outcome → X → X
engine_answered m o x = if is_blocked_outcome o then x else m.behind o x

-- the state after the outcomes
unfoldable pub engine_after : {X : Type 0} → Engine X → X → List Outcome → X
engine_after m x [] = x
engine_after m x (o ∷ os) = engine_after m (engine_answered m o x) os

-- the plan of an engine from a state on: where the last outcome is Blocked, the call's return
unfoldable pub plan_of : {X : Type 0} → Engine X → X → Plan
plan_of m x os = if ends_blocked os then call.Resume else m.call (engine_after m x os)
