-- The functions of an SFN partition, from the lines of its script.
-- Source: FF-M 1.1, the SFN model; the lines, and how many a script may have, are this simulator's script language. Functions have neither r14 and r15, nor the calls that the loop of their partition makes, nor the lines of mapped vectors.
use Rattle.std.specs.Prelude.{ℕ, ◌+◌, ◌==◌, nat_lt, nat_le, min, List, [], ◌∷◌, ◌++◌, length, Bool, true, false, ◌&&◌, Option, Some, None, option_and_then, Result, Ok, Err, is_some, if◌then◌else◌, codes, position, take}
use Rattle.std.specs.List.{list_all, list_any}
use Rattle.std.specs.Option.{ok_or, option_map, option_map_or}
use Rattle.std.specs.Result.{result_map_both}
use Rattle.std.specs.Str.{bytes_eq}
use Rattle.ffm_model.specs.declared.codes.TheConstants.{SCRIPT_SYNTAX}
use Rattle.ffm_model.specs.declared.constants.TheConstants.{MAX_SCRIPT_LINES}
use Rattle.ffm_model.specs.declared.system.System.{System}
use Rattle.ffm_model.specs.declared.system.ActorKind.TheVariants.{Partition}
use Rattle.ffm_model.specs.declared.script.Operand.{Operand}
use Rattle.ffm_model.specs.declared.script.Operand.TheVariants.{Register, Number}
use Rattle.ffm_model.specs.declared.script.Instruction.{Instruction}
use Rattle.ffm_model.specs.declared.script.Instruction.TheVariants.{Change, Jump, JumpIf, Make, Map}
use Rattle.ffm_model.specs.declared.script.SfnInstruction.{SfnInstruction}
use Rattle.ffm_model.specs.declared.script.SfnInstruction.TheVariants.{Plain, Return}
use Rattle.ffm_model.specs.declared.script.SfnFunction.{SfnFunction}
use Rattle.ffm_model.specs.Reading.{Stop, refused_at}
use Rattle.ffm_model.specs.SfnScripts.{is_function_call}
use Rattle.script_asm.specs.Lines.{Line, passed, label, order, lines_of, one_word, place_of, instruction_of, made_from, line_place}
use Rattle.script_asm.specs.Words.{Word, operand_of}
use Rattle.sfn_calls.specs.Sections.{Section, before, sections, is_used}

-- `x ← r` in a `do` goes on with the value of an Ok, and ends at an Err
infixl 10 ◌>>=◌
abbrev pub ◌>>=◌ : {A B : Type 0} → Result A ℕ → (A → Result B ℕ) → Result B ℕ
(Ok x) >>= f = f x
(Err line) >>= f = Err line

-- ---- the lines of a function

abbrev pub is_function_operand : Operand → Bool
is_function_operand (Register r) = nat_lt r 14
is_function_operand (Number n) = true

-- which lines of a partition's scripts a function has
abbrev pub is_function_instruction : Instruction → Bool
is_function_instruction (Change o r v) = nat_lt r 14 && is_function_operand v
is_function_instruction (Jump target) = true
is_function_instruction (JumpIf c r v target) = nat_lt r 14 && is_function_operand v
is_function_instruction (Make name operands) = is_function_call name && list_all is_function_operand operands
is_function_instruction (Map name operands) = false

-- `return V`
abbrev pub return_of : List Word → Option SfnInstruction
return_of ws = option_and_then (λ v. if is_function_operand v then Some (Return v) else None) (option_and_then operand_of (one_word ws))

-- the instruction of these words in a function of these lines; nothing where they are wrong
unfoldable pub function_instruction : List Line → List Word → Option SfnInstruction
function_instruction all [] = None
function_instruction all (w ∷ ws) =
    if bytes_eq w (codes "return") then return_of ws
    else option_and_then (λ i. if is_function_instruction i then Some (Plain i) else None) (instruction_of Partition all (w ∷ ws))

-- the instruction of the line at place i, in a list; nothing where it is wrong, as a label is that stands before it too
unfoldable pub made_of : List Line → ℕ → Line → Option (List SfnInstruction)
made_of all i passed = Some []
made_of all i (label n) = if is_some (place_of n (take i all)) then None else Some []
made_of all i (order ws) = option_map (λ x. x ∷ []) (function_instruction all ws)

-- the instructions of a function, whose first line has this number; or its first wrong line
unfoldable pub instructions_of : ℕ → List Line → Result (List SfnInstruction) ℕ
instructions_of first all = result_map_both (λ xs. xs) (λ i. first + i) (made_from (made_of all) 0 all)

-- ---- the functions

-- the place of the partition's own service of this name
abbrev pub own_service : System → ℕ → Word → Option ℕ
own_service s a name = position (λ v. (v.owner == a) && bytes_eq v.name name) s.services

abbrev pub has_function : List SfnFunction → ℕ → Bool
has_function functions service = list_any (λ f. f.service == service) functions

-- the service of a head; nothing where it is no own service, or has a function above
unfoldable pub service_of_head : System → ℕ → List SfnFunction → Word → Option ℕ
service_of_head s a above name = option_and_then (λ service. if has_function above service then None else Some service) (own_service s a name)

-- the function of a section, below these; or the section's first wrong line
unfoldable pub function_of : System → ℕ → List SfnFunction → Section → Result SfnFunction ℕ
function_of s a above x = do
  service ← ok_or (service_of_head s a above x.name) x.line
  instructions ← instructions_of (x.line + 1) x.lines
  Ok (record { service = service; instructions = instructions })

-- these functions, and below them those of the sections; or the first wrong line
unfoldable pub functions_below : System → ℕ → List SfnFunction → List Section → Result (List SfnFunction) ℕ
functions_below s a above [] = Ok above
functions_below s a above (x ∷ xs) = do
  f ← function_of s a above x
  functions_below s a (above ++ f ∷ []) xs

-- the functions of the lines; a line before the first head is wrong, unless it is passed
unfoldable pub functions_of : System → ℕ → List Line → Result (List SfnFunction) ℕ
functions_of s a lines = option_map_or Err (position is_used (before lines)) (functions_below s a [] (sections 0 lines))

-- of more lines than a script may have, the line after as many is wrong, unless an earlier one is
abbrev pub limited : ℕ → Result (List SfnFunction) ℕ → Result (List SfnFunction) ℕ
limited count (Ok functions) = if nat_le count MAX_SCRIPT_LINES then Ok functions else Err MAX_SCRIPT_LINES
limited count (Err line) = Err (min line MAX_SCRIPT_LINES)

-- ---- refusals

abbrev pub functions_or_refusal : ℕ → Result (List SfnFunction) ℕ → Result (List SfnFunction) Stop
functions_or_refusal number (Ok functions) = Ok functions
functions_or_refusal number (Err line) = Err (refused_at SCRIPT_SYNTAX (line_place number line))

-- what comes of the lines of the script with this number: the functions of the partition, or the refusal of its first wrong line
abbrev pub functions_read : System → ℕ → ℕ → List (List ℕ) → Result (List SfnFunction) Stop
functions_read s a number texts = functions_or_refusal number (limited (length texts) (functions_of s a (lines_of texts)))
