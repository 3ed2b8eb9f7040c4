-- Which numbers a system, a memory and programs may have, so that each number of a run's entries fits its field.
-- Source: this simulator's. The fields are those of `psa/client.h` and `psa/service.h`, of 32 bits each.
use Rattle.std.specs.Prelude.{ℕ, ◌≡◌, ◌<◌, true, List, [], get_or}
use Rattle.std.specs.List.{AllByRecursion}
use Rattle.ffm_model.specs.declared.script.Instruction.{Instruction}
use Rattle.ffm_model.specs.declared.script.Instruction.TheVariants.{Change, Jump, JumpIf, Make, Map}
use Rattle.ffm_model.specs.declared.script.Operand.{Operand}
use Rattle.ffm_model.specs.declared.script.Operand.TheVariants.{Register, Number}
use Rattle.ffm_model.specs.declared.script.SfnFunction.{SfnFunction}
use Rattle.ffm_model.specs.declared.script.SfnInstruction.{SfnInstruction}
use Rattle.ffm_model.specs.declared.script.SfnInstruction.TheVariants as sfn
use Rattle.ffm_model.specs.declared.system.System.{System}
use Rattle.ffm_model.specs.Actors.{actor_count}
use Rattle.ffm_model.specs.Memory.{ByteMap}
use Rattle.ffm_model.specs.TraceText.{IsU32}
use Rattle.actor_programs.specs.declared.program.Program.{Program}
use Rattle.actor_programs.specs.declared.program.Program.TheVariants.{Plain, Functions}
use Rattle.sfn_calls.specs.Partitions.{is_sfn}

-- each address has a byte
abbrev pub HasBytes : ByteMap → Type 0
HasBytes m = (x : ℕ) → m x < 256

-- each service's version is a value of a u32
abbrev pub VersionsFit : System → Type 0
VersionsFit s = AllByRecursion (λ v. IsU32 v.version) s.services

-- a number that a line states is a value of a u32
abbrev pub OperandFits : Operand → Type 0
OperandFits (Register r) = Unit {0}
OperandFits (Number n) = IsU32 n

abbrev pub LineFits : Instruction → Type 0
LineFits (Change operation register operand) = OperandFits operand
LineFits (Jump target) = Unit {0}
LineFits (JumpIf comparison register operand target) = OperandFits operand
LineFits (Make name operands) = AllByRecursion OperandFits operands
LineFits (Map name operands) = AllByRecursion OperandFits operands

abbrev pub FunctionLineFits : SfnInstruction → Type 0
FunctionLineFits (sfn.Plain line) = LineFits line
FunctionLineFits (sfn.Return operand) = OperandFits operand

abbrev pub PartsFit : List (List Instruction) → Type 0
PartsFit parts = AllByRecursion (AllByRecursion LineFits) parts

abbrev pub FunctionsFit : List SfnFunction → Type 0
FunctionsFit functions = AllByRecursion (λ f. AllByRecursion FunctionLineFits f.instructions) functions

-- the numbers of an actor's program; functions are a partition's of the SFN model
abbrev pub ProgramFits : System → ℕ → Program → Type 0
ProgramFits s a (Plain parts) = PartsFit parts
ProgramFits s a (Functions functions) = (is_sfn s a ≡ true) × FunctionsFit functions

abbrev pub ProgramsFit : System → List Program → Type 0
ProgramsFit s programs = (a : ℕ) → a < actor_count s → ProgramFits s a (get_or programs a (Plain []))
