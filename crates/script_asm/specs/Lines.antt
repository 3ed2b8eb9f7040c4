-- The lines of a script, its labels, and the instructions that they make.
-- Source: this simulator's script language.
use Rattle.std.specs.Prelude.{ℕ, ◌+◌, ◌-◌, List, [], ◌∷◌, ◌++◌, length, take, Bool, true, false, ◌&&◌, ◌==◌, Option, Some, None, option_and_then, Result, Ok, Err, is_some, if◌then◌else◌, replicate, slice_index, map}
use Rattle.std.specs.Str.{bytes_eq}
use Rattle.std.specs.Option.{option_map, option_map_or}
use Rattle.ffm_model.specs.declared.codes.TheConstants.{SCRIPT_SYNTAX}
use Rattle.ffm_model.specs.declared.key.Key.TheVariants as key
use Rattle.ffm_model.specs.declared.place.Root.TheVariants as root
use Rattle.ffm_model.specs.declared.place.PathStep.TheVariants as step
use Rattle.ffm_model.specs.declared.place.Place.{Place}
use Rattle.ffm_model.specs.declared.system.ActorKind.{ActorKind}
use Rattle.ffm_model.specs.declared.system.ActorKind.TheVariants.{Partition, Client, Device}
use Rattle.ffm_model.specs.declared.script.Operand.{Operand}
use Rattle.ffm_model.specs.declared.script.Operand.TheVariants.{Number}
use Rattle.ffm_model.specs.declared.script.Operation.{Operation}
use Rattle.ffm_model.specs.declared.script.Comparison.{Comparison}
use Rattle.ffm_model.specs.declared.script.CallName.{CallName}
use Rattle.ffm_model.specs.declared.script.CallName.TheVariants as name
use Rattle.ffm_model.specs.declared.script.MapName.{MapName}
use Rattle.script_asm.specs.declared.first_words.Head.{Head}
use Rattle.script_asm.specs.declared.first_words.Head.TheVariants as head
use Rattle.ffm_model.specs.declared.script.Instruction.{Instruction}
use Rattle.ffm_model.specs.declared.script.Instruction.TheVariants.{Change, Jump, JumpIf, Make, Map}
use Rattle.ffm_model.specs.Binding.{◌>>=◌}
use Rattle.ffm_model.specs.Reading.{Stop, refused_at}
use Rattle.script_asm.specs.Words.{Word, words_of, register_of, operand_of, head_of}
use Rattle.ffm_model.specs.Texts.{is_name}

-- ---- lines

-- a line is passed, is a label, or has the words of an instruction
pub data Line : Type 0 where
  passed : Line
  label : Word → Line
  order : List Word → Line

-- the name before the `:` that ends a word
unfoldable pub label_of : Word → Option Word
label_of w =
    if slice_index w (length w - 1) == 58 && is_name (take (length w - 1) w)
    then Some (take (length w - 1) w)
    else None

-- a label stands alone in its line
abbrev pub line_of_rest : Word → List Word → Line
line_of_rest w [] = option_map_or label (label_of w) (order (w ∷ []))
line_of_rest w (v ∷ ws) = order (w ∷ v ∷ ws)

-- a line without words is passed, and so is one that begins with `#`
abbrev pub line_of_words : List Word → Line
line_of_words [] = passed
line_of_words (w ∷ ws) = if slice_index w 0 == 35 then passed else line_of_rest w ws

unfoldable pub line_of : List ℕ → Line
line_of text = line_of_words (words_of text)

abbrev pub lines_of : List (List ℕ) → List Line
lines_of texts = map line_of texts

-- ---- labels

-- how many instructions a line makes
abbrev pub width : Line → ℕ
width passed = 0
width (label n) = 0
width (order ws) = 1

abbrev pub is_label : Word → Line → Bool
is_label n passed = false
is_label n (label m) = bytes_eq m n
is_label n (order ws) = false

-- where a jump to a label leads: past the instructions that stand before the label
unfoldable pub place_of : Word → List Line → Option ℕ
place_of n [] = None
place_of n (l ∷ ls) = if is_label n l then Some 0 else option_map (λ k. width l + k) (place_of n ls)

-- ---- instructions

-- which call lines a script of this kind may have: clients have no `psa/service.h`
unfoldable pub has_line : ActorKind → CallName → Bool
has_line Partition name.Raise = false
has_line Partition name.Fire = false
has_line Partition _ = true
has_line Client name.FrameworkVersion = true
has_line Client name.Version = true
has_line Client name.Connect = true
has_line Client name.Invoke = true
has_line Client name.Close = true
has_line Client name.Load = true
has_line Client name.Store = true
has_line Client name.Stop = true
has_line Client _ = false
has_line Device _ = true

-- vectors are mapped by partitions alone
abbrev pub may_map : ActorKind → Bool
may_map Partition = true
may_map Client = false
may_map Device = false

unfoldable pub operands_of : List Word → Option (List Operand)
operands_of [] = Some []
operands_of (w ∷ ws) = option_and_then (λ x. option_map (λ xs. x ∷ xs) (operands_of ws)) (operand_of w)

-- so many operands, the unused ones 0
abbrev pub filled : ℕ → List Operand → List Operand
filled room xs = xs ++ replicate (room - length xs) (Number 0)

-- exactly one word, two words, three words
abbrev pub one_word : List Word → Option Word
one_word (w ∷ []) = Some w
one_word _ = None

abbrev pub two_words : List Word → Option (Word × Word)
two_words [] = None
two_words (w ∷ ws) = option_map (λ v. (w, v)) (one_word ws)

abbrev pub three_words : List Word → Option (Word × (Word × Word))
three_words [] = None
three_words (w ∷ ws) = option_map (λ v. (w, v)) (two_words ws)

-- a register and a value: `set R V` and its like
abbrev pub change_of : Operation → List Word → Option Instruction
change_of o ws = do
  w ← two_words ws
  register ← register_of w.0
  operand ← operand_of w.1
  Some (Change o register operand)

-- a label: `jmp L`
abbrev pub jump_of : List Line → List Word → Option Instruction
jump_of all ws = do
  w ← one_word ws
  target ← place_of w all
  Some (Jump target)

-- a register, a value and a label: `jeq R V L` and its like
abbrev pub jump_if_of : Comparison → List Line → List Word → Option Instruction
jump_if_of c all ws = do
  w ← three_words ws
  register ← register_of w.0
  operand ← operand_of w.1.0
  target ← place_of w.1.1 all
  Some (JumpIf c register operand target)

-- so many values: a call line
abbrev pub make_of : ActorKind → CallName → ℕ → List Word → Option Instruction
make_of kind n count ws =
    if has_line kind n && (length ws == count) then option_map (λ xs. Make n (filled 6 xs)) (operands_of ws) else None

-- so many values: a line that maps or unmaps a vector
abbrev pub map_of : ActorKind → MapName → ℕ → List Word → Option Instruction
map_of kind n count ws =
    if may_map kind && (length ws == count) then option_map (λ xs. Map n (filled 3 xs)) (operands_of ws) else None

abbrev pub instruction_at : ActorKind → List Line → Head → List Word → Option Instruction
instruction_at kind all (head.Change o) ws = change_of o ws
instruction_at kind all head.Jump ws = jump_of all ws
instruction_at kind all (head.JumpIf c) ws = jump_if_of c all ws
instruction_at kind all (head.Make n count) ws = make_of kind n count ws
instruction_at kind all (head.Map n count) ws = map_of kind n count ws

-- the instruction of these words in a script of these lines; nothing where they are wrong
unfoldable pub instruction_of : ActorKind → List Line → List Word → Option Instruction
instruction_of kind all [] = None
instruction_of kind all (w ∷ ws) = option_and_then (λ h. instruction_at kind all h ws) (head_of w)

-- ---- scripts

-- the instructions of the line at place i; nothing where it is wrong, as a label is that stands before it too
unfoldable pub made_of : ActorKind → List Line → ℕ → Line → Option (List Instruction)
made_of kind all i passed = Some []
made_of kind all i (label n) = if is_some (place_of n (take i all)) then None else Some []
made_of kind all i (order ws) = option_map (λ x. x ∷ []) (instruction_of kind all ws)

-- what a line makes before what the lines after it make; a wrong line counts before them
abbrev pub line_then : {A : Type 0} → Option (List A) → ℕ → Result (List A) ℕ → Result (List A) ℕ
line_then None i rest = Err i
line_then (Some xs) i (Ok ys) = Ok (xs ++ ys)
line_then (Some xs) i (Err e) = Err e

-- what the lines from place i on make, where `make` gives it by the place and the line; or the first wrong one of them
unfoldable pub made_from : {A : Type 0} → (ℕ → Line → Option (List A)) → ℕ → List Line → Result (List A) ℕ
made_from make i [] = Ok []
made_from make i (l ∷ ls) = line_then (make i l) i (made_from make (i + 1) ls)

unfoldable pub assembled_lines : ActorKind → List Line → Result (List Instruction) ℕ
assembled_lines kind all = made_from (made_of kind all) 0 all

-- the instructions of a script, or the place of its first wrong line
unfoldable pub assembled : ActorKind → List (List ℕ) → Result (List Instruction) ℕ
assembled kind texts = assembled_lines kind (lines_of texts)

-- ---- refusals

-- the place of a line of the scenario's script with this number: `/scripts/NUMBER/lines/LINE`
abbrev pub line_place : ℕ → ℕ → Place
line_place number line = record {
  root = root.Scenario;
  steps = step.Key key.Scripts ∷ (step.Index number ∷ (step.Key key.Lines ∷ (step.Index line ∷ [])));
}

abbrev pub script_or_refusal : ℕ → Result (List Instruction) ℕ → Result (List (List Instruction)) Stop
script_or_refusal number (Ok instructions) = Ok (instructions ∷ [])
script_or_refusal number (Err line) = Err (refused_at SCRIPT_SYNTAX (line_place number line))

-- what comes of the lines of the script with this number: its one part, or the refusal of its first wrong line
abbrev pub script_read : ActorKind → ℕ → List (List ℕ) → Result (List (List Instruction)) Stop
script_read kind number texts = script_or_refusal number (assembled kind texts)
