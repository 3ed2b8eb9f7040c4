-- What a script calls next, after the outcomes so far.
-- Source: this simulator's script language.
use Rattle.std.specs.Prelude.{ℕ, zero, suc, ◌+◌, ◌-◌, ◌%◌, ◌^◌, List, [], ◌∷◌, length, Bool, not, ◌==◌, true, false, nat_lt, Option, Some, None, option_and_then, if◌then◌else◌, replicate, get_or, slice_get, slice_set, bit_and, bit_or, bit_xor}
use Rattle.std.specs.Option.{option_map_or}
use Rattle.std.specs.Int.{w32, cast_unsigned, cast_signed}
use Rattle.ffm_model.specs.declared.machine.Entry.{Entry}
use Rattle.ffm_model.specs.declared.machine.Handle.{Handle}
use Rattle.ffm_model.specs.declared.machine.Call.{Call}
use Rattle.ffm_model.specs.declared.machine.Call.TheVariants as call
use Rattle.ffm_model.specs.declared.machine.Message.{Message}
use Rattle.ffm_model.specs.declared.machine.Outcome.{Outcome}
use Rattle.ffm_model.specs.declared.machine.Outcome.TheVariants as outcome
use Rattle.ffm_model.specs.declared.script.Operand.{Operand}
use Rattle.ffm_model.specs.declared.script.Operand.TheVariants.{Register, Number}
use Rattle.ffm_model.specs.declared.script.Operation.{Operation}
use Rattle.ffm_model.specs.declared.script.Operation.TheVariants.{Set, Add, Sub, And, Or, Xor}
use Rattle.ffm_model.specs.declared.script.Comparison.{Comparison}
use Rattle.ffm_model.specs.declared.script.Comparison.TheVariants.{Equal, Different, Less}
use Rattle.ffm_model.specs.declared.script.CallName.{CallName}
use Rattle.ffm_model.specs.declared.script.CallName.TheVariants as name
use Rattle.ffm_model.specs.declared.script.Instruction.{Instruction}
use Rattle.ffm_model.specs.declared.script.Instruction.TheVariants.{Change, Jump, JumpIf, Make, Map}
use Rattle.ffm_model.specs.Plans.{Plan, PlanRun, Engine, plan_of, engine_after}

-- ---- points

-- where a script stands: its sixteen registers, and the place of its next instruction
pub record Point : Type 0 where
  pub registers : List ℕ
  pub place : ℕ

abbrev pub point : List ℕ → ℕ → Point
point registers place = record { registers = registers; place = place }

abbrev pub start : Point
start = point (replicate 16 0) 0

abbrev pub value_of : List ℕ → Operand → ℕ
value_of registers (Register r) = get_or registers r 0
value_of registers (Number n) = n

-- ---- local lines

-- what a register becomes by an operation with a value, modulo 2^32
abbrev pub changed : Operation → ℕ → ℕ → ℕ
changed Set x v = v
changed Add x v = (x + v) % 2 ^ 32
changed Sub x v = (x + 2 ^ 32 - v) % 2 ^ 32
changed And x v = bit_and x v
changed Or x v = bit_or x v
changed Xor x v = bit_xor x v

-- whether a register and a value meet a comparison, unsigned
abbrev pub meets : Comparison → ℕ → ℕ → Bool
meets Equal x v = x == v
meets Different x v = not (x == v)
meets Less x v = nat_lt x v

-- where a local line leads; nothing at a call line, nor at one that maps, which needs the messages of its partition
abbrev pub line_effect : Point → Instruction → Option Point
line_effect p (Change o r v) = Some (point (slice_set p.registers r (changed o (get_or p.registers r 0) (value_of p.registers v))) (p.place + 1))
line_effect p (Jump target) = Some (point p.registers target)
line_effect p (JumpIf c r v target) =
    Some (point p.registers (if meets c (get_or p.registers r 0) (value_of p.registers v) then target else p.place + 1))
line_effect p (Make n operands) = None
line_effect p (Map n operands) = None

-- one local line further, where a local line is next
unfoldable pub local_step : List Instruction → Point → Option Point
local_step script p = option_and_then (line_effect p) (slice_get script p.place)

-- n local lines further, or as many as come before the next call
unfoldable pub local_steps : List Instruction → ℕ → Point → Point
local_steps script zero p = p
local_steps script (suc n) p = option_map_or (local_steps script n) (local_step script p) p

-- as many local lines may run between two events
abbrev pub most_lines : ℕ
most_lines = 100000

-- where the script stands when it makes its next call
unfoldable pub arrived : List Instruction → Point → Point
arrived script p = local_steps script most_lines p

-- ---- calls

-- a handle is written as the 32 bits of its signed number
abbrev pub handle_of : ℕ → Handle
handle_of bits = record { 0 = cast_signed w32 bits }

-- the call of a name, where v gives the values of its operands, in the order of the call's fields
abbrev pub call_of : CallName → (ℕ → ℕ) → Call
call_of name.FrameworkVersion v = call.FrameworkVersion
call_of name.Version v = call.Version (record { 0 = v 0 })
call_of name.Connect v = call.Connect (record { 0 = v 0 }) (v 1)
call_of name.Invoke v = call.Invoke (handle_of (v 0)) (cast_signed w32 (v 1)) (v 2) (v 3) (v 4) (v 5)
call_of name.Close v = call.Close (handle_of (v 0))
call_of name.Wait v = call.Wait (v 0) (v 1)
call_of name.Get v = call.Get (v 0) (v 1)
call_of name.SetRhandle v = call.SetRhandle (handle_of (v 0)) (v 1)
call_of name.Read v = call.Read (handle_of (v 0)) (v 1) (v 2) (v 3)
call_of name.Skip v = call.Skip (handle_of (v 0)) (v 1) (v 2)
call_of name.Write v = call.Write (handle_of (v 0)) (v 1) (v 2) (v 3)
call_of name.Reply v = call.Reply (handle_of (v 0)) (record { 0 = cast_signed w32 (v 1) })
call_of name.Notify v = call.Notify (cast_signed w32 (v 0))
call_of name.Clear v = call.Clear
call_of name.Eoi v = call.Eoi (v 0)
call_of name.IrqEnable v = call.IrqEnable (v 0)
call_of name.IrqDisable v = call.IrqDisable (v 0)
call_of name.ResetSignal v = call.ResetSignal (v 0)
call_of name.Panic v = call.Panic
call_of name.Load v = call.Load (v 0) (v 1)
call_of name.Store v = call.Store (v 0) (v 1) (v 2)
call_of name.Raise v = call.Raise (v 0)
call_of name.Fire v = call.Fire (v 0) (v 1)
call_of name.Stop v = call.Stop false

-- the call of a line; a local line that may not run any more ends the script, and so does one that maps, where no messages are held
abbrev pub line_call : List ℕ → Instruction → Call
line_call registers (Make n operands) = call_of n (λ i. value_of registers (get_or operands i (Number 0)))
line_call registers (Change o r v) = call.Stop true
line_call registers (Jump target) = call.Stop true
line_call registers (JumpIf c r v target) = call.Stop true
line_call registers (Map n operands) = call.Stop false

-- the call that is made at a point; after the last line the script ends
unfoldable pub call_at : List Instruction → Point → Call
call_at script p = option_map_or (line_call p.registers) (slice_get script p.place) (call.Stop false)

-- ---- outcomes

-- psa_get puts 0, and then the message's kind, handle, client and rhandle, into r0 to r4
abbrev pub with_message : Message → List ℕ → List ℕ
with_message m registers =
    let r0 = slice_set registers 0 0 in
    let r1 = slice_set r0 1 (cast_unsigned w32 m.kind) in
    let r2 = slice_set r1 2 (cast_unsigned w32 m.handle.0) in
    let r3 = slice_set r2 3 (cast_unsigned w32 m.client_id) in
    slice_set r3 4 m.rhandle

-- the registers after an outcome
abbrev pub noted : Outcome → List ℕ → List ℕ
noted (outcome.Value z) registers = slice_set registers 0 (cast_unsigned w32 z)
noted (outcome.Number n) registers = slice_set registers 0 n
noted (outcome.Signals n) registers = slice_set registers 0 n
noted (outcome.Got m) registers = with_message m registers
noted outcome.Blocked registers = registers
noted outcome.Done registers = registers
noted outcome.Panicked registers = registers

-- the place after the line at a place; after the last line it stays
abbrev pub place_after : List Instruction → ℕ → ℕ
place_after script place = if nat_lt place (length script) then place + 1 else place

-- after the call that was made at a point
abbrev pub behind : List Instruction → Outcome → Point → Point
behind script o p = point (noted o p.registers) (place_after script p.place)

-- a script as an engine: it stands at a point, and goes on to its next call from there
abbrev pub script_engine : List Instruction → Engine Point
script_engine script = record { call = λ p. call_at script (arrived script p); behind = λ o p. behind script o (arrived script p) }

-- the plan of a script, from its first line on
abbrev pub script_plan : List Instruction → Plan
script_plan script = plan_of (script_engine script) start

-- where the script goes on after the outcomes
abbrev pub point_after : List Instruction → List Outcome → Point
point_after script os = engine_after (script_engine script) start os

-- an actor's entries are a run of its script
abbrev pub ScriptRun : List Instruction → List Entry → Type 0
ScriptRun script es = PlanRun (script_plan script) es

-- the instructions of a script of one part
abbrev pub only_part : List (List Instruction) → List Instruction
only_part [] = []
only_part (p ∷ ps) = p
