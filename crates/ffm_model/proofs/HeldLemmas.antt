-- psa_get and psa_reply change the table of held messages in one way, whatever line made the call.
use Rattle.std.proofs.Common.{ℕ, ◌≡◌, List, refl}
use Rattle.std.specs.Prelude.{Option, Some, None}
use Rattle.ffm_model.specs.declared.machine.Call.TheVariants as call
use Rattle.ffm_model.specs.declared.machine.Handle.{Handle}
use Rattle.ffm_model.specs.declared.machine.Outcome.{Outcome}
use Rattle.ffm_model.specs.declared.machine.Status.{Status}
use Rattle.ffm_model.specs.declared.script.Instruction.{Instruction}
use Rattle.ffm_model.specs.declared.script.Instruction.TheVariants as line
use Rattle.ffm_model.specs.declared.script.MapName.TheVariants.{MapIn, UnmapOut}
use Rattle.ffm_model.specs.Held.{Holder, HeldMessage, table_after}
use Rattle.ffm_model.specs.HeldPlans.{table_noted}

pub noted-get : (p : Holder) (i : Option Instruction) (signal msg : ℕ) (o : Outcome) (t : List HeldMessage)
    → table_noted p i (call.Get signal msg) o t ≡ table_after p (call.Get signal msg) o t
noted-get p None signal msg o t = refl
noted-get p (Some (line.Map MapIn operands)) signal msg o t = refl
noted-get p (Some (line.Map UnmapOut operands)) signal msg o t = refl
noted-get p (Some _) signal msg o t = refl

pub noted-reply : (p : Holder) (i : Option Instruction) (h : Handle) (status : Status) (o : Outcome) (t : List HeldMessage)
    → table_noted p i (call.Reply h status) o t ≡ table_after p (call.Reply h status) o t
noted-reply p None h status o t = refl
noted-reply p (Some (line.Map MapIn operands)) h status o t = refl
noted-reply p (Some (line.Map UnmapOut operands)) h status o t = refl
noted-reply p (Some _) h status o t = refl
