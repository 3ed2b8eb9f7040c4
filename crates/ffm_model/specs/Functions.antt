-- The functions of an SFN partition: how their lines run, what they call, and what they return.
-- Source: FF-M 1.1, the SFN model: each RoT Service is a function of the message, whose result is the reply's status. The lines are this simulator's script language.
use Rattle.std.specs.Prelude.{ℕ, zero, suc, ◌==◌, Bool, true, false, not, List, Option, None, option_and_then, map, find, fold, replicate, slice_get, bit_and, bit_or}
use Rattle.std.specs.Option.{option_map_or}
use Rattle.std.specs.Int.{w32, cast_signed}
use Rattle.ffm_model.specs.declared.machine.Handle.{Handle}
use Rattle.ffm_model.specs.declared.machine.Call.{Call}
use Rattle.ffm_model.specs.declared.machine.Call.TheVariants as call
use Rattle.ffm_model.specs.declared.script.SfnInstruction.{SfnInstruction}
use Rattle.ffm_model.specs.declared.script.SfnInstruction.TheVariants.{Plain, Return}
use Rattle.ffm_model.specs.ScriptRuns.{Point, line_effect, line_call, value_of}

-- ---- a partition

-- a service of the partition: its signal, and the lines of its function
pub record SfnService : Type 0 where
  pub signal : ℕ
  pub lines : List SfnInstruction

-- where psa_get puts its message, and the services from the lowest signal up
pub record SfnPartition : Type 0 where
  pub base : ℕ
  pub services : List SfnService

-- the signals of all its services
unfoldable pub signals_in : List SfnService → ℕ
signals_in services = fold bit_or 0 (map (λ v. v.signal) services)

abbrev pub asserts : ℕ → SfnService → Bool
asserts signals v = not (bit_and signals v.signal == 0)

-- the service with the lowest signal that is asserted
unfoldable pub lowest : List SfnService → ℕ → Option SfnService
lowest services signals = find (asserts signals) services

-- ---- local lines

-- a function has registers r0 to r13
abbrev pub function_registers : List ℕ
function_registers = replicate 14 0

-- where a local line leads; nothing at a call and at a return
abbrev pub function_effect : Point → SfnInstruction → Option Point
function_effect p (Plain i) = line_effect p i
function_effect p (Return operand) = None

-- one local line further, where a local line is next
unfoldable pub function_step : List SfnInstruction → Point → Option Point
function_step lines p = option_and_then (function_effect p) (slice_get lines p.place)

-- n local lines further, or as many as come before the next call or return
unfoldable pub function_steps : List SfnInstruction → ℕ → Point → Point
function_steps lines zero p = p
function_steps lines (suc n) p = option_map_or (function_steps lines n) (function_step lines p) p

-- ---- calls and returns

-- the reply to the message of a handle, with the 32 bits of a status
abbrev pub answer : Handle → ℕ → Call
answer h bits = call.Reply h (record { 0 = cast_signed w32 bits })

abbrev pub function_line_call : Handle → List ℕ → SfnInstruction → Call
function_line_call h registers (Plain i) = line_call registers i
function_line_call h registers (Return operand) = answer h (value_of registers operand)

-- the call that is made at a point; after its last line the function returns 0
unfoldable pub function_call_at : List SfnInstruction → Handle → Point → Call
function_call_at lines h p = option_map_or (function_line_call h p.registers) (slice_get lines p.place) (answer h 0)

abbrev pub is_return : SfnInstruction → Bool
is_return (Plain i) = false
is_return (Return operand) = true

-- whether the function returns at a point
unfoldable pub returns_at : List SfnInstruction → Point → Bool
returns_at lines p = option_map_or is_return (slice_get lines p.place) true
