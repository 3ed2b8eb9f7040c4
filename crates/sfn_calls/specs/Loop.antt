-- The same functions as one script: the loop of a partition of the IPC model.
-- Source: this simulator's. It waits for the services' signals, tests them from the lowest up with r15, gets the message, keeps its handle in r14, runs the function, replies, and goes back.
use Rattle.std.specs.Prelude.{ℕ, zero, suc, ◌+◌, List, [], ◌∷◌, ◌++◌, length}
use Rattle.ffm_model.specs.declared.constants.TheConstants.{PSA_BLOCK}
use Rattle.ffm_model.specs.declared.script.Operand.{Operand}
use Rattle.ffm_model.specs.declared.script.Operand.TheVariants.{Register, Number}
use Rattle.ffm_model.specs.declared.script.Operation.TheVariants.{Set, And}
use Rattle.ffm_model.specs.declared.script.Comparison.TheVariants.{Equal}
use Rattle.ffm_model.specs.declared.script.CallName.{CallName}
use Rattle.ffm_model.specs.declared.script.CallName.TheVariants as name
use Rattle.ffm_model.specs.declared.script.Instruction.{Instruction}
use Rattle.ffm_model.specs.declared.script.Instruction.TheVariants.{Change, Jump, JumpIf, Make, Map}
use Rattle.ffm_model.specs.declared.script.SfnInstruction.{SfnInstruction}
use Rattle.ffm_model.specs.declared.script.SfnInstruction.TheVariants.{Plain, Return}
use Rattle.ffm_model.specs.Functions.{SfnService, SfnPartition, signals_in}

-- a call of two operands
abbrev pub call_line : CallName → Operand → Operand → Instruction
call_line n x y = Make n (x ∷ (y ∷ (Number 0 ∷ (Number 0 ∷ (Number 0 ∷ (Number 0 ∷ []))))))

-- ---- a function

-- a line of a function becomes one instruction, and a return two
abbrev pub width : SfnInstruction → ℕ
width (Plain i) = 1
width (Return operand) = 2

-- how far after the function's first instruction a place of the function lies
unfoldable pub place_in : List SfnInstruction → ℕ → ℕ
place_in [] t = 0
place_in (x ∷ xs) zero = 0
place_in (x ∷ xs) (suc t) = width x + place_in xs t

-- a line whose targets lead elsewhere
abbrev pub moved : (ℕ → ℕ) → Instruction → Instruction
moved to (Change o r v) = Change o r v
moved to (Jump t) = Jump (to t)
moved to (JumpIf c r v t) = JumpIf c r v (to t)
moved to (Make n operands) = Make n operands
moved to (Map n operands) = Map n operands

-- the reply of a return, and the jump back to psa_wait
abbrev pub reply_code : Operand → List Instruction
reply_code v = call_line name.Reply (Register 14) v ∷ (Jump 0 ∷ [])

abbrev pub line_code : (ℕ → ℕ) → SfnInstruction → List Instruction
line_code to (Plain i) = moved to i ∷ []
line_code to (Return v) = reply_code v

-- the lines of a function, and after the last one its return of 0
unfoldable pub lines_code : (ℕ → ℕ) → List SfnInstruction → List Instruction
lines_code to [] = reply_code (Number 0)
lines_code to (x ∷ xs) = line_code to x ++ lines_code to xs

-- the code of a function at a place
abbrev pub function_code : List SfnInstruction → ℕ → List Instruction
function_code lines at = lines_code (λ t. at + place_in lines t) lines

-- ---- a service

-- the test of a service's signal, which leads past the service's code where the signal isn't asserted; psa_get; and the handle kept
abbrev pub dispatch_code : ℕ → ℕ → ℕ → List Instruction
dispatch_code signal base behind =
    Change Set 15 (Register 0) ∷ (Change And 15 (Number signal) ∷ (JumpIf Equal 15 (Number 0) behind
    ∷ (call_line name.Get (Number signal) (Number base) ∷ (Change Set 14 (Register 2) ∷ []))))

-- how many instructions a service has
unfoldable pub service_size : List SfnInstruction → ℕ
service_size lines = 5 + place_in lines (length lines) + 2

-- the code of a service at a place
unfoldable pub service_code : ℕ → ℕ → SfnService → List Instruction
service_code base at v = dispatch_code v.signal base (at + service_size v.lines) ++ function_code v.lines (at + 5)

unfoldable pub services_code : ℕ → ℕ → List SfnService → List Instruction
services_code base at [] = []
services_code base at (v ∷ vs) = service_code base at v ++ services_code base (at + service_size v.lines) vs

-- ---- the loop

unfoldable pub expanded : SfnPartition → List Instruction
expanded p = call_line name.Wait (Number (signals_in p.services)) (Number PSA_BLOCK) ∷ services_code p.base 1 p.services
