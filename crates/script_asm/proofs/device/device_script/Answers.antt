use Rattle.std.proofs.Common.{List, sym, subst}
use Rattle.ffm_model.specs.declared.script.Instruction.{Instruction}
use Rattle.ffm_model.specs.Scripts.{IsPart}
use Rattle.script_asm.proofs.DeviceLemmas.{raises-part}
use Rattle.script_asm.proofs.device.device_script.Goals as goal

pub plain-requires : goal.plain-requires
plain-requires c =
    let P : List Instruction → Type 0 = IsPart in
    subst P (sym c.in_ok-instructions.ensures) (raises-part _)
