-- What each line that concerns a vector does.
-- Source: FF-M 1.1, mapped vectors (MM-IOVEC); this simulator's script language.
use Rattle.std.specs.Prelude.{ℕ, Bool, true, false, not, List, slice_set, Option, Some, None, if◌then◌else◌}
use Rattle.ffm_model.specs.declared.machine.Handle.{Handle}
use Rattle.ffm_model.specs.declared.machine.Call.{Call}
use Rattle.ffm_model.specs.declared.machine.Call.TheVariants as call
use Rattle.ffm_model.specs.declared.script.Instruction.{Instruction}
use Rattle.ffm_model.specs.declared.script.Instruction.TheVariants as line
use Rattle.ffm_model.specs.declared.script.MapName.TheVariants as name
use Rattle.ffm_model.specs.Held.{Holder, HeldMessage, can_map_in, can_map_out, can_unmap_in, can_unmap_out, changed_at, input_size, input_window, is_refused, output_window, touched, with_input, with_output}
use Rattle.ffm_model.specs.Held.VectorState.{mapped, unmapped}
use Rattle.ffm_model.specs.HeldPlans.{Holding, LineStep, map_line, next_line}
use Rattle.ffm_model.specs.HeldPlans.LineStep.{leads, makes}
use Rattle.mm_iovec.specs.declared.line.MmLine.{MmLine}
use Rattle.mm_iovec.specs.declared.line.MmLine.TheVariants.{MapIn, UnmapIn, MapOut, UnmapOut, Read, Skip, Write}
use Rattle.mm_iovec.specs.declared.line.MmStep.{MmStep}
use Rattle.mm_iovec.specs.declared.line.MmStep.TheVariants.{Calls, Local, Fault}

-- whether the line may be done; where it may not, it is a PROGRAMMER ERROR
abbrev pub can_do : Holder → List HeldMessage → MmLine → Bool
can_do p t (MapIn h index) = can_map_in p t h index
can_do p t (UnmapIn h index) = can_unmap_in t h index
can_do p t (MapOut h index) = can_map_out p t h index
can_do p t (UnmapOut h index len) = can_unmap_out t h index len
can_do p t (Read h index buffer len) = not (is_refused t (call.Read h index buffer len))
can_do p t (Skip h index len) = not (is_refused t (call.Skip h index len))
can_do p t (Write h index buffer len) = not (is_refused t (call.Write h index buffer len))

-- what it does then: a call, or none and perhaps a number for r0
abbrev pub step_done : Holder → List HeldMessage → MmLine → MmStep
step_done p t (MapIn h index) = Calls (call.Read h index (input_window p index) (input_size t h index))
step_done p t (UnmapIn h index) = Local None
step_done p t (MapOut h index) = Local (Some (output_window p index))
step_done p t (UnmapOut h index len) = Calls (call.Write h index (output_window p index) len)
step_done p t (Read h index buffer len) = Calls (call.Read h index buffer len)
step_done p t (Skip h index len) = Calls (call.Skip h index len)
step_done p t (Write h index buffer len) = Calls (call.Write h index buffer len)

-- the table after it: a line with a call leaves it to the call's outcome
abbrev pub table_done : MmLine → List HeldMessage → List HeldMessage
table_done (UnmapIn h index) t = changed_at h (with_input unmapped index) t
table_done (MapOut h index) t = changed_at h (with_output mapped index) t
table_done _ t = t

abbrev pub step_of : Holder → List HeldMessage → MmLine → MmStep
step_of p t l = if can_do p t l then step_done p t l else Fault

abbrev pub table_of : Holder → List HeldMessage → MmLine → List HeldMessage
table_of p t l = if can_do p t l then table_done l t else t

-- ---- the same in the engine of a script

abbrev pub made_unless_refused : Holding → Call → LineStep
made_unless_refused x c = makes (if is_refused x.table c then call.Panic else c)

-- the line where a script stands
abbrev pub engine_line : Holder → Holding → MmLine → LineStep
engine_line p x (MapIn h index) = map_line p x name.MapIn h index 0
engine_line p x (UnmapIn h index) = map_line p x name.UnmapIn h index 0
engine_line p x (MapOut h index) = map_line p x name.MapOut h index 0
engine_line p x (UnmapOut h index len) = map_line p x name.UnmapOut h index len
engine_line p x (Read h index buffer len) = made_unless_refused x (call.Read h index buffer len)
engine_line p x (Skip h index len) = made_unless_refused x (call.Skip h index len)
engine_line p x (Write h index buffer len) = made_unless_refused x (call.Write h index buffer len)

-- a step where a script stands, with the table after it
abbrev pub engine_step : Holding → MmStep → List HeldMessage → LineStep
engine_step x (Calls c) t = makes c
engine_step x (Local None) t = leads (next_line x x.at.registers t)
engine_step x (Local (Some r0)) t = leads (next_line x (slice_set x.at.registers 0 r0) t)
engine_step x Fault t = makes call.Panic

-- ---- after a call

-- it was made by a line that maps an input
abbrev pub maps_in : Option Instruction → Bool
maps_in (Some (line.Map name.MapIn operands)) = true
maps_in _ = false

-- it was made by a line that unmaps an output
abbrev pub unmaps_out : Option Instruction → Bool
unmaps_out (Some (line.Map name.UnmapOut operands)) = true
unmaps_out _ = false

-- psa_read maps its vector, or uses it
abbrev pub table_read : Option Instruction → Handle → ℕ → List HeldMessage → List HeldMessage
table_read i h index t =
    if maps_in i then changed_at h (with_input mapped index) t else changed_at h (λ m. record m { input = touched index m.input }) t

-- psa_write unmaps its vector, or uses it
abbrev pub table_written : Option Instruction → Handle → ℕ → List HeldMessage → List HeldMessage
table_written i h index t =
    if unmaps_out i then changed_at h (with_output unmapped index) t else changed_at h (λ m. record m { output = touched index m.output }) t
