-- The script of the device, which no file writes.
-- Source: this simulator's script language.
use Rattle.std.specs.Prelude.{ℕ, List, [], ◌∷◌, Option, Some, None, map}
use Rattle.ffm_model.specs.declared.scenario.RaiseItem.{RaiseItem}
use Rattle.ffm_model.specs.declared.script.CallName.TheVariants as name
use Rattle.ffm_model.specs.declared.script.Instruction.{Instruction}
use Rattle.ffm_model.specs.declared.script.Instruction.TheVariants.{Make}
use Rattle.ffm_model.specs.declared.script.Operand.TheVariants.{Number}
use Rattle.script_asm.specs.Lines.{filled}

abbrev pub raised : ℕ → Option ℕ → Instruction
raised source None = Make name.Raise (filled 6 (Number source ∷ []))
raised source (Some answer) = Make name.Fire (filled 6 (Number source ∷ Number answer ∷ []))

-- an interrupt of the source at that place: raised, or fired with the answer of its first-level handler
abbrev pub raise : RaiseItem → Instruction
raise x = raised x.source x.result

-- the interrupts in order; after the last one it ends. It has one part
unfoldable pub device_script : List RaiseItem → List (List Instruction)
device_script raises = map raise raises ∷ []
