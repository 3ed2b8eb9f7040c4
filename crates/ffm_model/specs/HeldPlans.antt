-- What the script of a partition calls next, where it may map the vectors of the messages that it holds.
-- Source: this simulator's script language; FF-M 1.1, mapped vectors (MM-IOVEC).
use Rattle.std.specs.Prelude.{ℕ, zero, suc, ◌+◌, true, false, List, [], get_or, slice_get, slice_set, Option, Some, None, option_and_then, if◌then◌else◌}
use Rattle.std.specs.Option.{option_map_or}
use Rattle.ffm_model.specs.declared.machine.Handle.{Handle}
use Rattle.ffm_model.specs.declared.machine.Call.{Call}
use Rattle.ffm_model.specs.declared.machine.Call.TheVariants as call
use Rattle.ffm_model.specs.declared.machine.Outcome.{Outcome}
use Rattle.ffm_model.specs.declared.script.Operand.{Operand}
use Rattle.ffm_model.specs.declared.script.Operand.TheVariants.{Number}
use Rattle.ffm_model.specs.declared.script.MapName.{MapName}
use Rattle.ffm_model.specs.declared.script.MapName.TheVariants.{MapIn, UnmapIn, MapOut, UnmapOut}
use Rattle.ffm_model.specs.declared.script.Instruction.{Instruction}
use Rattle.ffm_model.specs.declared.script.Instruction.TheVariants as line
use Rattle.ffm_model.specs.Plans.{Plan, Engine, plan_of}
use Rattle.ffm_model.specs.ScriptRuns.{Point, point, start, most_lines, value_of, line_effect, line_call, handle_of, noted, place_after}
use Rattle.ffm_model.specs.Held.{Holder, HeldMessage, input_window, output_window, input_size, changed_at, with_input, with_output, table_after, table_touched, is_refused, can_map_in, can_map_out, can_unmap_in, can_unmap_out}
use Rattle.ffm_model.specs.Held.VectorState.{mapped, unmapped}

-- where the script stands, and the messages that it holds
pub record Holding : Type 0 where
  pub at : Point
  pub table : List HeldMessage

-- it holds none at its start
abbrev pub holding_none : Holding
holding_none = record { at = start; table = [] }

-- what a line does where the script stands: it leads on without a call, or makes a call
pub data LineStep : Type 0 where
  leads : Holding → LineStep
  makes : Call → LineStep

-- ---- lines

abbrev pub number_operand : List ℕ → List Operand → ℕ → ℕ
number_operand registers operands i = value_of registers (get_or operands i (Number 0))

abbrev pub handle_operand : List ℕ → List Operand → ℕ → Handle
handle_operand registers operands i = handle_of (number_operand registers operands i)

-- a line that doesn't map does what it does in any script, but that a refused call is a PROGRAMMER ERROR
abbrev pub other_line : Holding → Instruction → Option Point → LineStep
other_line x i (Some p) = leads (record x { at = p })
other_line x i None = makes (if is_refused x.table (line_call x.at.registers i) then call.Panic else line_call x.at.registers i)

-- after a line without a call
abbrev pub next_line : Holding → List ℕ → List HeldMessage → Holding
next_line x registers t = record { at = point registers (x.at.place + 1); table = t }

-- a line that maps or unmaps: an input is copied in when it is mapped, an output is copied out when it is unmapped; what may not be is a PROGRAMMER ERROR
abbrev pub map_line : Holder → Holding → MapName → Handle → ℕ → ℕ → LineStep
map_line p x MapIn h index len =
    makes (if can_map_in p x.table h index then call.Read h index (input_window p index) (input_size x.table h index) else call.Panic)
map_line p x MapOut h index len =
    if can_map_out p x.table h index
    then leads (next_line x (slice_set x.at.registers 0 (output_window p index)) (changed_at h (with_output mapped index) x.table))
    else makes call.Panic
map_line p x UnmapIn h index len =
    if can_unmap_in x.table h index
    then leads (next_line x x.at.registers (changed_at h (with_input unmapped index) x.table))
    else makes call.Panic
map_line p x UnmapOut h index len =
    makes (if can_unmap_out x.table h index len then call.Write h index (output_window p index) len else call.Panic)

abbrev pub line_step : Holder → Holding → Instruction → LineStep
line_step p x (line.Map n operands) =
    map_line p x n (handle_operand x.at.registers operands 0) (number_operand x.at.registers operands 1) (number_operand x.at.registers operands 2)
line_step p x i = other_line x i (line_effect x.at i)

-- ---- up to the next call

abbrev pub led_to : LineStep → Option Holding
led_to (leads x) = Some x
led_to (makes c) = None

-- a line that would lead on and may not ends the script
abbrev pub call_made : LineStep → Call
call_made (leads x) = call.Stop true
call_made (makes c) = c

unfoldable pub held_step : Holder → List Instruction → Holding → Option Holding
held_step p script x = option_and_then (λ i. led_to (line_step p x i)) (slice_get script x.at.place)

-- n lines without a call further, or as many as come before the next call
unfoldable pub held_steps : Holder → List Instruction → ℕ → Holding → Holding
held_steps p script zero x = x
held_steps p script (suc n) x = option_map_or (held_steps p script n) (held_step p script x) x

-- where the script stands when it makes its next call
unfoldable pub held_arrived : Holder → List Instruction → Holding → Holding
held_arrived p script x = held_steps p script most_lines x

-- the call that is made there; after the last line the script ends
unfoldable pub held_call : Holder → List Instruction → Holding → Call
held_call p script x = option_map_or (λ i. call_made (line_step p x i)) (slice_get script x.at.place) (call.Stop false)

-- ---- after a call

-- the table after a call's outcome: psa_read for map_in leaves the vector mapped, psa_write for unmap_out unmapped, and any other call leaves its vector used
abbrev pub table_noted : Holder → Option Instruction → Call → Outcome → List HeldMessage → List HeldMessage
table_noted p (Some (line.Map MapIn operands)) (call.Read h index buffer len) o t = changed_at h (with_input mapped index) t
table_noted p (Some (line.Map UnmapOut operands)) (call.Write h index buffer len) o t = changed_at h (with_output unmapped index) t
table_noted p i c o t = table_after p c o (table_touched c t)

-- the registers after it: r0 is the window after map_in
abbrev pub registers_noted : Option Instruction → Call → Outcome → List ℕ → List ℕ
registers_noted (Some (line.Map MapIn operands)) (call.Read h index buffer len) o registers = slice_set (noted o registers) 0 buffer
registers_noted i c o registers = noted o registers

unfoldable pub held_after : Holder → List Instruction → Outcome → Holding → Holding
held_after p script o x =
    let i = slice_get script x.at.place in
    let c = held_call p script x in
    record { at = point (registers_noted i c o x.at.registers) (place_after script x.at.place); table = table_noted p i c o x.table }

-- ---- the plan

-- the script of a partition as an engine
abbrev pub held_engine : Holder → List Instruction → Engine Holding
held_engine p script = record { call = λ x. held_call p script (held_arrived p script x); behind = λ o x. held_after p script o (held_arrived p script x) }

-- the plan of a partition with this script
abbrev pub held_plan : Holder → List Instruction → Plan
held_plan p script = plan_of (held_engine p script) holding_none
