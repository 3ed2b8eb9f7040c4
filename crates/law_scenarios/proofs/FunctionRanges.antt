-- The numbers of the functions of an SFN partition that were read are in range.
use Rattle.std.proofs.Common.{ℕ, ◌+◌, Bool, true, false, List, [], ◌∷◌, ◌++◌, length, take}
use Rattle.std.specs.Prelude.{Option, Some, None, Result, Ok, Err, IfOk, IfSome, codes, if◌then◌else◌, is_some, nat_le, option_and_then, position}
use Rattle.std.specs.List.{AllByRecursion}
use Rattle.std.specs.Option.{ok_or, option_map, option_map_or}
use Rattle.std.specs.Result.{result_map_both}
use Rattle.std.specs.Str.{bytes_eq}
use Rattle.law_lists.proofs.Lists.{AllByRecursion-push}
use Rattle.ffm_model.specs.declared.constants.TheConstants.{MAX_SCRIPT_LINES}
use Rattle.ffm_model.specs.declared.script.SfnFunction.{SfnFunction}
use Rattle.ffm_model.specs.declared.script.SfnInstruction.{SfnInstruction}
use Rattle.ffm_model.specs.declared.script.SfnInstruction.TheVariants as sfn
use Rattle.ffm_model.specs.declared.system.ActorKind.TheVariants.{Partition}
use Rattle.ffm_model.specs.declared.system.System.{System}
use Rattle.script_asm.specs.Lines.{Line, passed, label, order, instruction_of, lines_of, made_from as lines_made, one_word, place_of}
use Rattle.script_asm.specs.Words.{Word, operand_of}
use Rattle.sfn_calls.specs.FunctionLines.{◌>>=◌, function_instruction, function_of, functions_below, functions_of, functions_or_refusal, functions_read, instructions_of, is_function_instruction, is_function_operand, limited, made_of, return_of, service_of_head}
use Rattle.sfn_calls.specs.Sections.{Section, before, is_used, sections}
use Rattle.law_scenarios.specs.Ranges.{FunctionLineFits, FunctionsFit, LineFits, OperandFits}
use Rattle.law_scenarios.proofs.Assembly.{instruction-fits, made-from-fits, operand-of-fits}

-- a test that lets a value through
let-through : {X Y : Type 0} (P : X → Type 0) (Q : Y → Type 0) (test : X → Bool) (f : X → Y) (o : Option X) → ((x : X) → P x → Q (f x)) → IfSome o P → IfSome (option_and_then (λ x. if test x then Some (f x) else None) o) Q
let-through P Q test f None each h = tt
let-through P Q test f (Some x) each h = elim (test x) as (λ (b : Bool). IfSome (if b then Some (f x) else None) Q) [ true ↦ each x h | false ↦ tt ]

word-fits : (o : Option Word) → IfSome (option_and_then operand_of o) OperandFits
word-fits None = tt
word-fits (Some w) = operand-of-fits w

return-fits : (ws : List Word) → IfSome (return_of ws) FunctionLineFits
return-fits ws = let-through OperandFits FunctionLineFits is_function_operand sfn.Return (option_and_then operand_of (one_word ws)) (λ v h. h) (word-fits (one_word ws))

function-line-fits : (all : List Line) (ws : List Word) → IfSome (function_instruction all ws) FunctionLineFits
unfolding function_instruction
function-line-fits all [] = tt
function-line-fits all (w ∷ ws) =
    elim (bytes_eq w (codes "return")) as (λ (b : Bool). IfSome (if b then return_of ws else option_and_then (λ i. if is_function_instruction i then Some (sfn.Plain i) else None) (instruction_of Partition all (w ∷ ws))) FunctionLineFits) [
      | true ↦ return-fits ws
      | false ↦ let-through LineFits FunctionLineFits is_function_instruction sfn.Plain (instruction_of Partition all (w ∷ ws)) (λ i h. h) (instruction-fits Partition all (w ∷ ws))
    ]

line-made : (all : List Line) (i : ℕ) (l : Line) → IfSome (made_of all i l) (AllByRecursion FunctionLineFits)
unfolding made_of
line-made all i passed = tt
line-made all i (label n) = elim (is_some (place_of n (take i all))) as (λ (b : Bool). IfSome (if b then None else Some []) (AllByRecursion FunctionLineFits)) [ true ↦ tt | false ↦ tt ]
line-made all i (order ws) = one (function_instruction all ws) (function-line-fits all ws) where
  one : (o : Option SfnInstruction) → IfSome o FunctionLineFits → IfSome (option_map (λ x. x ∷ []) o) (AllByRecursion FunctionLineFits)
  one None h = tt
  one (Some x) h = (h, tt)

instructions-fit : (first : ℕ) (all : List Line) → IfOk (instructions_of first all) (AllByRecursion FunctionLineFits)
unfolding instructions_of
instructions-fit first all = kept (lines_made (made_of all) 0 all) (made-from-fits FunctionLineFits (made_of all) (line-made all) 0 all) where
  kept : (r : Result (List SfnInstruction) ℕ) → IfOk r (AllByRecursion FunctionLineFits) → IfOk (result_map_both (λ xs. xs) (λ i. first + i) r) (AllByRecursion FunctionLineFits)
  kept (Ok xs) h = h
  kept (Err e) h = tt

abbrev FunctionFits : SfnFunction → Type 0
FunctionFits f = AllByRecursion FunctionLineFits f.instructions

function-fits : (s : System) (a : ℕ) (above : List SfnFunction) (x : Section) → IfOk (function_of s a above x) FunctionFits
unfolding function_of
function-fits s a above x = on (ok_or (service_of_head s a above x.name) x.line) where
  with : (service : ℕ) (r : Result (List SfnInstruction) ℕ) → IfOk r (AllByRecursion FunctionLineFits) → IfOk (r >>= (λ instructions. Ok (record { service = service; instructions = instructions }))) FunctionFits
  with service (Ok xs) h = h
  with service (Err e) h = tt

  on : (r : Result ℕ ℕ) → IfOk (r >>= (λ service. instructions_of (x.line + 1) x.lines >>= (λ instructions. Ok (record { service = service; instructions = instructions })))) FunctionFits
  on (Ok service) = with service (instructions_of (x.line + 1) x.lines) (instructions-fit (x.line + 1) x.lines)
  on (Err e) = tt

below-fit : (s : System) (a : ℕ) (xs : List Section) (above : List SfnFunction) → FunctionsFit above → IfOk (functions_below s a above xs) FunctionsFit
unfolding functions_below
below-fit s a [] above h = h
below-fit s a (x ∷ xs) above h =
    let go : (r : Result SfnFunction ℕ) → IfOk r FunctionFits → IfOk (r >>= (λ f. functions_below s a (above ++ f ∷ []) xs)) FunctionsFit = elim [
      | Ok f ↦ λ own. below-fit s a xs (above ++ f ∷ []) (AllByRecursion-push FunctionFits above f h own)
      | Err e ↦ λ own. tt
    ] in
    go (function_of s a above x) (function-fits s a above x)

functions-fit : (s : System) (a : ℕ) (lines : List Line) → IfOk (functions_of s a lines) FunctionsFit
unfolding functions_of
functions-fit s a lines =
    elim (position is_used (before lines)) as (λ (o : Option ℕ). IfOk (option_map_or Err o (functions_below s a [] (sections 0 lines))) FunctionsFit) [ None ↦ below-fit s a (sections 0 lines) [] tt | Some i ↦ tt ]

limited-fit : (count : ℕ) (r : Result (List SfnFunction) ℕ) → IfOk r FunctionsFit → IfOk (limited count r) FunctionsFit
limited-fit count (Ok fs) h = elim (nat_le count MAX_SCRIPT_LINES) as (λ (b : Bool). IfOk (if b then Ok fs else Err MAX_SCRIPT_LINES) FunctionsFit) [ true ↦ h | false ↦ tt ]
limited-fit count (Err e) h = tt

refusable : (number : ℕ) (r : Result (List SfnFunction) ℕ) → IfOk r FunctionsFit → IfOk (functions_or_refusal number r) FunctionsFit
refusable number (Ok fs) h = h
refusable number (Err e) h = tt

pub functions-read-fit : (s : System) (a number : ℕ) (texts : List (List ℕ)) → IfOk (functions_read s a number texts) FunctionsFit
functions-read-fit s a number texts = refusable number _ (limited-fit (length texts) _ (functions-fit s a (lines_of texts)))
