-- Where the contexts of a client stand, and when they are in step with its scripts.
-- Source: this simulator's.
use Rattle.std.specs.Prelude.{ℕ, ◌≡◌, ◌<◌, Bool, true, false, List, length, get_or, replicate}
use Rattle.ffm_model.specs.declared.machine.Call.{Call}
use Rattle.ffm_model.specs.declared.machine.Call.TheVariants as call
use Rattle.ffm_model.specs.declared.machine.Outcome.{Outcome}
use Rattle.ffm_model.specs.declared.script.Instruction.{Instruction}
use Rattle.ffm_model.specs.Contexts.{Contexts, DeskView, caller, context_engine, opening_contexts, script_of}
use Rattle.ffm_model.specs.Plans.{engine_after}
use Rattle.ffm_model.specs.Records.{ends_blocked}
use Rattle.ffm_model.specs.ScriptRuns.{Point, arrived, call_at, place_after, point, start}
use Rattle.partition_sim.specs.declared.context.Context.{Context}

-- ---- one context, told by the point where its script goes on after its last event

abbrev pub first_context : Context
first_context = record { registers = replicate 16 0; place = 0; ready = false; call = call.Resume; after = 0 }

-- the call that a script makes from a point on
abbrev pub call_from : List Instruction → Point → Call
call_from script p = call_at script (arrived script p)

-- the context stands at that call
pub record AtCall (script : List Instruction) (p : Point) (c : Context) : Type 0 where
  pub is_ready : c.ready ≡ true
  pub here : point c.registers c.place ≡ arrived script p
  pub call_is : c.call ≡ call_from script p
  pub after_is : c.after ≡ place_after script c.place

-- the context stands at the point, or at its call already
pub record Reaches (script : List Instruction) (p : Point) (c : Context) : Type 0 where
  pub begins : c.ready ≡ false → point c.registers c.place ≡ p
  pub stands : c.ready ≡ true → AtCall script p c

-- ---- the contexts of a client

-- each stands at its point, or at its next call already
abbrev pub EachReaches : List (List Instruction) → List Point → List Context → Type 0
EachReaches scripts ps cs = (k : ℕ) → k < length scripts → Reaches (script_of scripts k) (get_or ps k start) (get_or cs k first_context)

-- each stands at its next call
abbrev pub EachAtCall : List (List Instruction) → List Point → List Context → Type 0
EachAtCall scripts ps cs = (k : ℕ) → k < length scripts → AtCall (script_of scripts k) (get_or ps k start) (get_or cs k first_context)

-- ---- a runner, told by the outcomes of the client's calls

-- what contracts see of a runner: its contexts, whose turn it is, whose call was asked for, and whether that call waits for its return
pub record ClientStanding : Type 0 where
  pub contexts : List Context
  pub desk : DeskView
  pub caller : ℕ
  pub waiting : Bool

-- where the scripts go on after the outcomes, and whose turn it is
abbrev pub contexts_after : List (List Instruction) → List Outcome → Contexts
contexts_after scripts os = engine_after (context_engine scripts) (opening_contexts scripts) os

abbrev pub desk_of : List (List Instruction) → Contexts → DeskView
desk_of scripts x = record { count = length scripts; turn = x.turn }

-- the runner has seen these outcomes
pub record FollowsAll (scripts : List (List Instruction)) (outcomes : List Outcome) (r : ClientStanding) : Type 0 where
  pub waits : r.waiting ≡ ends_blocked outcomes
  pub desk_is : r.desk ≡ desk_of scripts (contexts_after scripts outcomes)
  pub each : EachReaches scripts (contexts_after scripts outcomes).points r.contexts

-- it has seen them, its contexts stand at their next calls, and it knows which one calls
pub record AskedAll (scripts : List (List Instruction)) (outcomes : List Outcome) (r : ClientStanding) : Type 0 where
  pub waits : r.waiting ≡ ends_blocked outcomes
  pub desk_is : r.desk ≡ desk_of scripts (contexts_after scripts outcomes)
  pub each : EachAtCall scripts (contexts_after scripts outcomes).points r.contexts
  pub caller_is : r.caller ≡ caller scripts (contexts_after scripts outcomes)
