-- What a call's outcome does to the table, by the kind of the call.
use Rattle.std.proofs.Common.{ℕ, ◌≡◌, List, refl}
use Rattle.std.specs.Prelude.{Option, Some, None}
use Rattle.ffm_model.specs.declared.machine.Handle.{Handle}
use Rattle.ffm_model.specs.declared.machine.Call.TheVariants as call
use Rattle.ffm_model.specs.declared.machine.Outcome.{Outcome}
use Rattle.ffm_model.specs.declared.script.Instruction.{Instruction}
use Rattle.ffm_model.specs.declared.script.Instruction.TheVariants as line
use Rattle.ffm_model.specs.declared.script.MapName.TheVariants.{MapIn, UnmapOut}
use Rattle.ffm_model.specs.Held.{Holder, HeldMessage}
use Rattle.ffm_model.specs.HeldPlans.{table_noted}
use Rattle.mm_iovec.specs.Lines.{table_read, table_written}

pub noted-read : (p : Holder) (i : Option Instruction) (h : Handle) (index buffer len : ℕ) (o : Outcome) (t : List HeldMessage)
    → table_noted p i (call.Read h index buffer len) o t ≡ table_read i h index t
noted-read p None h index buffer len o t = refl
noted-read p (Some (line.Map MapIn operands)) h index buffer len o t = refl
noted-read p (Some _) h index buffer len o t = refl

pub noted-write : (p : Holder) (i : Option Instruction) (h : Handle) (index buffer len : ℕ) (o : Outcome) (t : List HeldMessage)
    → table_noted p i (call.Write h index buffer len) o t ≡ table_written i h index t
noted-write p None h index buffer len o t = refl
noted-write p (Some (line.Map UnmapOut operands)) h index buffer len o t = refl
noted-write p (Some _) h index buffer len o t = refl
