-- What a script keeps: few parts, registers below 16, and targets inside the part. It names no `Script`.
-- Source: this simulator's script language.
use Rattle.std.specs.Prelude.{ℕ, ◌<◌, ◌≤◌, ◌≡◌, Bool, true, false, List, length}
use Rattle.std.specs.List.{AllByRecursion}
use Rattle.ffm_model.specs.declared.script.Operand.{Operand}
use Rattle.ffm_model.specs.declared.script.Operand.TheVariants.{Register, Number}
use Rattle.ffm_model.specs.declared.script.Instruction.{Instruction}
use Rattle.ffm_model.specs.declared.script.Instruction.TheVariants as line

abbrev pub IsOperand : Operand → Type 0
IsOperand (Register r) = r < 16
IsOperand (Number n) = Unit {0}

-- fits a part of so many instructions
abbrev pub FitsIn : ℕ → Instruction → Type 0
FitsIn count (line.Change operation register operand) = (register < 16) × IsOperand operand
FitsIn count (line.Jump target) = target ≤ count
FitsIn count (line.JumpIf comparison register operand target) = (register < 16) × IsOperand operand × (target ≤ count)
FitsIn count (line.Make name operands) = AllByRecursion IsOperand operands
FitsIn count (line.Map name operands) = AllByRecursion IsOperand operands

abbrev pub IsPart : List Instruction → Type 0
IsPart instructions = AllByRecursion (FitsIn (length instructions)) instructions

-- no line maps or unmaps a vector
abbrev pub maps : Instruction → Bool
maps (line.Map name operands) = true
maps _ = false

abbrev pub MapsNothing : List Instruction → Type 0
MapsNothing instructions = AllByRecursion (λ i. maps i ≡ false) instructions

-- an actor has one context, or up to eight
pub record IsScript (parts : List (List Instruction)) : Type 0 where
  pub some : 0 < length parts
  pub few : length parts ≤ 8
  pub each : AllByRecursion IsPart parts
