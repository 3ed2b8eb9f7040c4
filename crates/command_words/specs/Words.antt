-- Which lists of words are accepted. The first word is the program's name.
-- Source: this simulator's command line.
use Rattle.std.specs.Prelude.{ℕ, ◌+◌, ◌*◌, nat_le, Bool, true, false, not, ◌&&◌, ◌==◌, List, [], ◌∷◌, Option, None, Some, codes, if◌then◌else◌}
use Rattle.std.specs.Char.{digit_value, is_digit}
use Rattle.std.specs.Option.{option_map}
use Rattle.std.specs.Str.{bytes_eq}
use Rattle.command_words.specs.declared.limits.TheConstants.{MAX_ROUNDS}
use Rattle.command_words.specs.declared.words.Inspection.{Inspection}
use Rattle.command_words.specs.declared.words.Inspection.TheVariants.{Replay, Audit}
use Rattle.command_words.specs.declared.words.Command.{Command}
use Rattle.command_words.specs.declared.words.Command.TheVariants as command

-- what an accepted list asks for, by the names of the files or by a number
pub data Order : Type 0 where
  compile : List ℕ → Order
  -- with threads or without
  run : Bool → List ℕ → List ℕ → Order
  judge : Inspection → List ℕ → List ℕ → List ℕ → Order
  make : ℕ → Order

-- a file's name isn't empty and doesn't begin with `-`
abbrev pub is_file_word : List ℕ → Bool
is_file_word [] = false
is_file_word (first ∷ rest) = not (first == 45)

-- SYSTEM
abbrev pub compile_words : List (List ℕ) → Option Order
compile_words (system ∷ []) = if is_file_word system then Some (compile system) else None
compile_words _ = None

-- a run of a scenario over a system, with threads or without
abbrev pub run_files : Bool → List ℕ → List ℕ → Option Order
run_files threads system scenario = if is_file_word system && is_file_word scenario then Some (run threads system scenario) else None

-- the flag of a run
abbrev pub is_flag : List ℕ → Bool
is_flag word = bytes_eq word (codes "--threads")

-- SYSTEM SCENARIO, with the flag before, between or after them
abbrev pub flagged_words : List ℕ → List ℕ → List ℕ → Option Order
flagged_words first second third =
    if is_flag first then run_files true second third
    else (if is_flag second then run_files true first third
    else (if is_flag third then run_files true first second else None))

-- SYSTEM SCENARIO, with the flag or without
abbrev pub run_words : List (List ℕ) → Option Order
run_words (system ∷ scenario ∷ []) = run_files false system scenario
run_words (first ∷ second ∷ third ∷ []) = flagged_words first second third
run_words _ = None

-- a trace, for a scenario over a system
abbrev pub trace_files : Inspection → List ℕ → List ℕ → List ℕ → Option Order
trace_files how system scenario trace =
    if is_file_word system && (is_file_word scenario && is_file_word trace) then Some (judge how system scenario trace) else None

-- SCENARIO TRACE, after SYSTEM
abbrev pub trace_over : Inspection → List ℕ → List (List ℕ) → Option Order
trace_over how system (scenario ∷ trace ∷ []) = trace_files how system scenario trace
trace_over how system _ = None

-- SYSTEM SCENARIO TRACE
abbrev pub trace_words : Inspection → List (List ℕ) → Option Order
trace_words how [] = None
trace_words how (system ∷ words) = trace_over how system words

-- the number that n and the decimal digits after it spell, where it is at most the limit
abbrev pub rounds_after : ℕ → List ℕ → Option ℕ
rounds_after n [] = Some n
rounds_after n (d ∷ ds) =
    if is_digit d 10 && nat_le (n * 10 + digit_value d) MAX_ROUNDS then rounds_after (n * 10 + digit_value d) ds else None

-- a number from 1 to the limit, in decimal digits without a leading zero
unfoldable pub rounds_of : List ℕ → Option ℕ
rounds_of [] = None
rounds_of (d ∷ ds) = if d == 48 then None else rounds_after 0 (d ∷ ds)

-- N
abbrev pub make_words : List (List ℕ) → Option Order
make_words (count ∷ []) = option_map make (rounds_of count)
make_words _ = None

-- the words of a command
abbrev pub command_words : List ℕ → List (List ℕ) → Option Order
command_words name words =
    if bytes_eq name (codes "compile") then compile_words words
    else (if bytes_eq name (codes "run") then run_words words
    else (if bytes_eq name (codes "replay") then trace_words Replay words
    else (if bytes_eq name (codes "audit") then trace_words Audit words
    else (if bytes_eq name (codes "make") then make_words words else None))))

-- the name of the command, and its words
abbrev pub order_of : List (List ℕ) → Option Order
order_of (program ∷ name ∷ words) = command_words name words
order_of _ = None

-- whether a run with threads is asked for
abbrev pub has_threads : Order → Bool
has_threads (run threads system scenario) = threads
has_threads _ = false

abbrev pub asks_threads : Option Order → Bool
asks_threads None = false
asks_threads (Some order) = has_threads order

-- what a command of the code asks for
abbrev pub order : Command → Order
order (command.Compile system) = compile system.now
order (command.Run threads system scenario) = run threads system.now scenario.now
order (command.Judge how system scenario trace) = judge how system.now scenario.now trace.now
order (command.Make rounds) = make rounds
