-- The instructions of a function's lines fit it, and are those of the definition.
use Rattle.std.proofs.Common.{ℕ, ◌≡◌, ◌≤◌, ◌+◌, List, [], ◌∷◌, length, ap, ◌∙◌, arith, sum_by, true, take, zero-add, length-take}
use Rattle.std.proofs.lemmas.List.{length-map}
use Rattle.std.specs.Prelude.{Option, Some, Ok, Err, is_some, nat_lt}
use Rattle.std.specs.List.{AllByRecursion, list_all}
use Rattle.std.specs.Result.{result_map_both}
use Rattle.std.proofs.lemmas.Bool.{and_parts, ltb-true}
use Rattle.std.proofs.lemmas.List.Sums.{sum_by-append}
use Rattle.ffm_model.specs.declared.script.Operand.{Operand}
use Rattle.ffm_model.specs.declared.script.Operand.TheVariants.{Register, Number}
use Rattle.ffm_model.specs.declared.script.Instruction.{Instruction}
use Rattle.ffm_model.specs.declared.script.Instruction.TheVariants.{Change, Jump, JumpIf, Make, Map}
use Rattle.ffm_model.specs.declared.script.SfnInstruction.{SfnInstruction}
use Rattle.ffm_model.specs.SfnScripts.{IsFunctionOperand, IsFunctionLine, FitsFunction, is_function_call}
use Rattle.ffm_model.specs.Scripts.{FitsIn}
use Rattle.script_asm.specs.Lines.{Line, passed, label, order, place_of, width, made_from}
use Rattle.script_asm.specs.Made.{listed}
use Rattle.script_asm.specs.Views.{line_view, lines_view}
use Rattle.script_asm.specs.declared.lines.Line as code
use Rattle.script_asm.proofs.MadeLemmas.{Fitting, passed-width, label-width, order-width}
use Rattle.sfn_calls.specs.FunctionLines.{is_function_operand, is_function_instruction, function_instruction, made_of, instructions_of}
use Rattle.script_asm.proofs.LabelLemmas.{width-one}

-- ---- what fits

operand-fits : (v : Operand) → is_function_operand v ≡ true → IsFunctionOperand v
operand-fits (Register r) h = ltb-true r 14 h
operand-fits (Number n) h = tt

operands-fit : (vs : List Operand) → list_all is_function_operand vs ≡ true → AllByRecursion IsFunctionOperand vs
operands-fit [] h = tt
operands-fit (v ∷ vs) h =
    let parts = and_parts (is_function_operand v) (list_all is_function_operand vs) h in
    (operand-fits v parts.0, operands-fit vs parts.1)

pub instruction-fits : (count : ℕ) (i : Instruction) → FitsIn count i → is_function_instruction i ≡ true → FitsFunction count i
instruction-fits count (Change o r v) fits h =
    let parts = and_parts (nat_lt r 14) (is_function_operand v) h in
    (ltb-true r 14 parts.0, operand-fits v parts.1)
instruction-fits count (Jump t) fits h = fits
instruction-fits count (JumpIf c r v t) fits h =
    let parts = and_parts (nat_lt r 14) (is_function_operand v) h in
    (ltb-true r 14 parts.0, operand-fits v parts.1, fits.2)
instruction-fits count (Make n vs) fits h =
    let parts = and_parts (is_function_call n) (list_all is_function_operand vs) h in
    (parts.0, operands-fit vs parts.1)
instruction-fits count (Map n vs) fits h = cc

-- ---- how many there are

pub listed-width : (all : List Line) (i : ℕ) (l : Line) (made : Option SfnInstruction) → Some (listed made) ≡ made_of all i l → length (listed made) ≡ width l
unfolding made_of
listed-width all i passed made e = passed-width made e
listed-width all i (label n) made e = label-width (is_some (place_of n (take i all))) made e
listed-width all i (order ws) made e = order-width (function_instruction all ws) made e

widths-few : (ls : List Line) → sum_by width ls ≤ length ls
widths-few [] = omega arith
widths-few (l ∷ ls) =
    let first : width l ≤ 1 = width-one l in
    let rest : sum_by width ls ≤ length ls = widths-few ls in
    let sum : sum_by width (l ∷ ls) ≡ width l + sum_by width ls = sum_by-append width (l ∷ []) ls ∙ ap (λ n. n + sum_by width ls) (zero-add (width l)) in
    omega (arith, sum)

-- no more than the lines
pub fitting-few : (ls : List code.Line) (front : List SfnInstruction) (i : ℕ) → Fitting IsFunctionLine (lines_view ls) (lines_view (take i ls)) front → length front ≤ length ls
fitting-few ls front i f =
    let few = widths-few (lines_view (take i ls)) in
    omega (arith, f.count, few, length-map (take i ls) line_view, length-take i ls)

-- ---- by the lines' numbers

pub numbered-made : (first : ℕ) (all : List Line) (xs : List SfnInstruction) → made_from (made_of all) 0 all ≡ Ok xs → instructions_of first all ≡ Ok xs
unfolding instructions_of
numbered-made first all xs e = ap (result_map_both (λ x. x) (λ i. first + i)) e

pub numbered-wrong : (first : ℕ) (all : List Line) (i : ℕ) → made_from (made_of all) 0 all ≡ Err i → instructions_of first all ≡ Err (first + i)
unfolding instructions_of
numbered-wrong first all i e = ap (result_map_both (λ x. x) (λ i. first + i)) e
