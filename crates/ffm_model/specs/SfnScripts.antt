-- What the functions of an SFN partition keep. It names no `SfnScript`.
-- Source: FF-M 1.1, the SFN model; the lines of a function are this simulator's script language.
use Rattle.std.specs.Prelude.{ℕ, ◌<◌, ◌≤◌, ◌≡◌, ◌==◌, Bool, true, false, List, length, map}
use Rattle.std.specs.List.{AllByRecursion, IsDistinct}
use Rattle.ffm_model.specs.declared.constants.TheConstants.{MAX_SCRIPT_LINES}
use Rattle.ffm_model.specs.declared.script.CallName.{CallName}
use Rattle.ffm_model.specs.declared.script.CallName.TheVariants as name
use Rattle.ffm_model.specs.declared.script.Operand.{Operand}
use Rattle.ffm_model.specs.declared.script.Operand.TheVariants.{Register, Number}
use Rattle.ffm_model.specs.declared.script.Instruction.{Instruction}
use Rattle.ffm_model.specs.declared.script.Instruction.TheVariants as line
use Rattle.ffm_model.specs.declared.script.SfnInstruction.{SfnInstruction}
use Rattle.ffm_model.specs.declared.script.SfnInstruction.TheVariants.{Plain, Return}
use Rattle.ffm_model.specs.declared.script.SfnFunction.{SfnFunction}

-- which calls a function makes: a partition's, but for those that its rounds make and those on interrupts and the doorbell
abbrev pub is_function_call : CallName → Bool
is_function_call name.Wait = false
is_function_call name.Get = false
is_function_call name.Reply = false
is_function_call name.Stop = false
is_function_call name.Clear = false
is_function_call name.Eoi = false
is_function_call name.IrqEnable = false
is_function_call name.IrqDisable = false
is_function_call name.ResetSignal = false
is_function_call name.Raise = false
is_function_call name.Fire = false
is_function_call _ = true

-- a function has registers r0 to r13
abbrev pub IsFunctionOperand : Operand → Type 0
IsFunctionOperand (Register r) = r < 14
IsFunctionOperand (Number n) = Unit {0}

-- fits a function of so many lines
abbrev pub FitsFunction : ℕ → Instruction → Type 0
FitsFunction count (line.Change operation register operand) = (register < 14) × IsFunctionOperand operand
FitsFunction count (line.Jump target) = target ≤ count
FitsFunction count (line.JumpIf comparison register operand target) = (register < 14) × IsFunctionOperand operand × (target ≤ count)
FitsFunction count (line.Make name operands) = (is_function_call name ≡ true) × AllByRecursion IsFunctionOperand operands
FitsFunction count (line.Map name operands) = ⊥

abbrev pub IsFunctionLine : ℕ → SfnInstruction → Type 0
IsFunctionLine count (Plain i) = FitsFunction count i
IsFunctionLine count (Return operand) = IsFunctionOperand operand

-- the lines of one function
abbrev pub IsFunction : List SfnInstruction → Type 0
IsFunction lines = AllByRecursion (IsFunctionLine (length lines)) lines

pub record IsSfnScript (functions : List SfnFunction) : Type 0 where
  -- no two functions have one service
  pub one_each : IsDistinct (λ x y. x == y) (map (λ f. f.service) functions)
  pub fit : AllByRecursion (λ f. IsFunction f.instructions) functions
  pub short : AllByRecursion (λ f. length f.instructions ≤ MAX_SCRIPT_LINES) functions
