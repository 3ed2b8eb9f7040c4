-- Where the script of a partition stands, and when a runner is in step with it.
-- Source: this simulator's script language; FF-M 1.1, mapped vectors (MM-IOVEC).
use Rattle.std.specs.Prelude.{ℕ, ◌≡◌, Bool, true, false, List, Option, slice_get}
use Rattle.ffm_model.specs.declared.machine.Call.{Call}
use Rattle.ffm_model.specs.declared.machine.Outcome.{Outcome}
use Rattle.ffm_model.specs.declared.script.Instruction.{Instruction}
use Rattle.ffm_model.specs.Held.{Holder}
use Rattle.ffm_model.specs.HeldPlans.{Holding, held_arrived, held_call, held_engine, holding_none}
use Rattle.ffm_model.specs.Plans.{engine_after}
use Rattle.ffm_model.specs.Records.{ends_blocked}
use Rattle.ffm_model.specs.ScriptRuns.{place_after}

-- what contracts see of a partition's runner: the partition, where its script stands and the messages that it holds, whether a call waits for its return, and whether it stands at its next call; of that call the line, the call, and where the script goes on after it
pub record PartitionStanding : Type 0 where
  pub holder : Holder
  pub at : Holding
  pub waiting : Bool
  pub ready : Bool
  pub line : Option Instruction
  pub call : Call
  pub after : ℕ

-- where the script goes on after the outcomes
abbrev pub holding_after : Holder → List Instruction → List Outcome → Holding
holding_after p script os = engine_after (held_engine p script) holding_none os

-- the runner has seen these outcomes, and stands at the call after them
pub record AskedHeld (p : Holder) (script : List Instruction) (outcomes : List Outcome) (r : PartitionStanding) : Type 0 where
  pub holder_is : r.holder ≡ p
  pub waits : r.waiting ≡ ends_blocked outcomes
  pub is_ready : r.ready ≡ true
  pub here : r.at ≡ held_arrived p script (holding_after p script outcomes)
  pub line_is : r.line ≡ slice_get script r.at.at.place
  pub call_is : r.call ≡ held_call p script r.at
  pub after_is : r.after ≡ place_after script r.at.at.place

-- it has seen them, and stands where the script goes on, or at the next call already
pub record FollowsHeld (p : Holder) (script : List Instruction) (outcomes : List Outcome) (r : PartitionStanding) : Type 0 where
  pub holder_is : r.holder ≡ p
  pub waits : r.waiting ≡ ends_blocked outcomes
  pub begins : r.ready ≡ false → r.at ≡ holding_after p script outcomes
  pub stands : r.ready ≡ true → AskedHeld p script outcomes r
