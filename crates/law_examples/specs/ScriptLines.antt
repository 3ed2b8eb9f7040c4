-- Words for the instructions of written scripts.
-- Source: this simulator's script language.
use Rattle.std.specs.Prelude.{ℕ, List, ◌++◌, take, replicate}
use Rattle.ffm_model.specs.declared.script.CallName.{CallName}
use Rattle.ffm_model.specs.declared.script.MapName.{MapName}
use Rattle.ffm_model.specs.declared.script.Operand.{Operand}
use Rattle.ffm_model.specs.declared.script.Operand.TheVariants.{Register, Number}
use Rattle.ffm_model.specs.declared.script.Instruction.{Instruction}
use Rattle.ffm_model.specs.declared.script.Instruction.TheVariants.{Make, Map}

abbrev pub register : ℕ → Operand
register i = Register i

abbrev pub number : ℕ → Operand
number n = Number n

-- a call with these operands
abbrev pub call : CallName → List Operand → Instruction
call name operands = Make name (take 6 (operands ++ replicate 6 (Number 0)))

-- a line that maps or unmaps
abbrev pub map_line : MapName → List Operand → Instruction
map_line name operands = Map name (take 3 (operands ++ replicate 3 (Number 0)))
