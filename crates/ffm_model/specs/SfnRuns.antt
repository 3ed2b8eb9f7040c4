-- When the entries of an SFN partition are a run of its functions: rounds, of which the last may be cut off.
-- Source: FF-M 1.1, the SFN model; in this simulator the partition waits for its services' signals, gets the message of the lowest one, and its function's result is the reply.
use Rattle.std.specs.Prelude.{ℕ, zero, suc, ◌+◌, ◌^◌, ◌≡◌, ◌==◌, Bool, true, false, List, [], ◌∷◌, ◌++◌, Option, Some, find, if◌then◌else◌}
use Rattle.std.specs.Option.{option_map, option_map_or, option_to_list}
use Rattle.ffm_model.specs.declared.constants.TheConstants.{PSA_BLOCK}
use Rattle.ffm_model.specs.declared.machine.Entry.{Entry}
use Rattle.ffm_model.specs.declared.machine.Handle.{Handle}
use Rattle.ffm_model.specs.declared.machine.Message.{Message}
use Rattle.ffm_model.specs.declared.machine.Call.{Call}
use Rattle.ffm_model.specs.declared.machine.Call.TheVariants as call
use Rattle.ffm_model.specs.declared.machine.Outcome.{Outcome}
use Rattle.ffm_model.specs.declared.machine.Outcome.TheVariants as outcome
use Rattle.ffm_model.specs.declared.script.SfnInstruction.{SfnInstruction}
use Rattle.ffm_model.specs.declared.script.SfnFunction.{SfnFunction}
use Rattle.ffm_model.specs.declared.system.System.{System}
use Rattle.ffm_model.specs.Records.{is_blocked_outcome}
use Rattle.ffm_model.specs.ScriptRuns.{Point, point, most_lines, noted, with_message}
use Rattle.ffm_model.specs.ServiceCalls.{service_of_signal}
use Rattle.ffm_model.specs.PartitionRam.{ram_base}
use Rattle.ffm_model.specs.Functions.{SfnService, SfnPartition, signals_in, lowest, function_registers, function_steps, function_call_at, returns_at}

-- ---- the partition of a system

-- the lines of a service's function; a service without one returns 0 at once
abbrev pub lines_for : List SfnFunction → ℕ → List SfnInstruction
lines_for functions service = option_map_or (λ f. f.instructions) (find (λ f. f.service == service) functions) []

-- the service of the partition whose signal is a bit, and its function
abbrev pub sfn_service_at : System → ℕ → List SfnFunction → ℕ → Option SfnService
sfn_service_at s a functions bit = option_map (λ service. record { signal = 2 ^ bit; lines = lines_for functions service }) (service_of_signal s a (2 ^ bit))

-- those of n bits, from one on
unfoldable pub sfn_services_from : System → ℕ → List SfnFunction → ℕ → ℕ → List SfnService
sfn_services_from s a functions bit zero = []
sfn_services_from s a functions bit (suc n) = option_to_list (sfn_service_at s a functions bit) ++ sfn_services_from s a functions (bit + 1) n

-- a partition of a system with these functions, which reads its messages at the start of its RAM; the signals of services are bits 4 to 31
unfoldable pub sfn_partition : System → ℕ → List SfnFunction → SfnPartition
sfn_partition s a functions = record { base = ram_base s a; services = sfn_services_from s a functions 4 28 }

-- ---- a function at work

-- its lines, the handle of its message, how many local lines may run before its next call or return,
-- where it goes on, and whether its last call is still to return
pub record Work : Type 0 where
  pub lines : List SfnInstruction
  pub handle : Handle
  pub budget : ℕ
  pub at : Point
  pub pending : Bool

-- so many local lines may run before a function's first call or return: one fewer than later on
abbrev pub first_budget : ℕ
first_budget = 99999

-- it begins at its first line, with r0 to r4 as psa_get puts them, and the other registers as the round before left them
abbrev pub begun : SfnService → Message → List ℕ → Work
begun v m registers = record { lines = v.lines; handle = m.handle; budget = first_budget; at = point (with_message m registers) 0; pending = false }

-- where it makes its next call, or returns
unfoldable pub reached : Work → Point
reached w = function_steps w.lines w.budget w.at

abbrev pub work_call : Work → Call
work_call w = if w.pending then call.Resume else function_call_at w.lines w.handle (reached w)

-- after a call; a blocked call stays pending, and the outcome of its return counts as its own
abbrev pub work_after : Work → Outcome → Work
work_after w o =
    if is_blocked_outcome o
    then record w { pending = true }
    else record w { budget = most_lines; at = point (noted o (reached w).registers) ((reached w).place + 1); pending = false }

-- ---- rounds

-- where a partition stands in its round, with its registers
pub data Stage : Type 0 where
  -- before the round
  idle : List ℕ → Stage
  -- psa_wait is blocked
  waiting : List ℕ → Stage
  -- psa_wait told these signals
  signalled : List ℕ → ℕ → Stage
  -- in the function of a message
  working : Work → Stage

-- the reply ends the round
abbrev pub stage_after : Work → Outcome → Stage
stage_after w o = if returns_at w.lines (reached w) then idle (reached w).registers else working (work_after w o)

-- from a stage on, the entries are the rest of a round and further rounds
abbrev pub SfnRunFrom : SfnPartition → Stage → List Entry → Type 0
SfnRunFrom p stage [] = Unit {0}
SfnRunFrom p (idle registers) (e ∷ es) =
    (e.call ≡ call.Wait (signals_in p.services) PSA_BLOCK) × ((e.outcome ≡ outcome.Blocked) × SfnRunFrom p (waiting registers) es)
SfnRunFrom p (waiting registers) (e ∷ es) =
    (e.call ≡ call.Resume) × ((signals : ℕ) × ((e.outcome ≡ outcome.Signals signals) × SfnRunFrom p (signalled registers signals) es))
SfnRunFrom p (signalled registers signals) (e ∷ es) =
    (v : SfnService) × ((lowest p.services signals ≡ Some v) × ((e.call ≡ call.Get v.signal p.base)
    × ((m : Message) × ((e.outcome ≡ outcome.Got m) × SfnRunFrom p (working (begun v m registers)) es))))
SfnRunFrom p (working w) (e ∷ es) = (e.call ≡ work_call w) × SfnRunFrom p (stage_after w e.outcome) es

-- the partition's entries are a run of its functions
abbrev pub SfnRun : SfnPartition → List Entry → Type 0
SfnRun p es = SfnRunFrom p (idle function_registers) es
