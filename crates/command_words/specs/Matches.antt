-- The matches of `clap` that ask for an order.
-- Source: this simulator's command line.
use Rattle.std.specs.Prelude.{◌≡◌, Bool, true, false, List, Option, None, Some, codes, option_and_then}
use Rattle.clap.specs.Words.{Row, Text, first_of, one_of}
use Rattle.command_words.specs.declared.words.Inspection.{Inspection}
use Rattle.command_words.specs.declared.words.Inspection.TheVariants.{Replay, Audit}
use Rattle.command_words.specs.Words.{Order, compile, run, judge, make, rounds_of}

-- the name of the command that judges a trace
abbrev pub inspection_name : Inspection → Text
inspection_name Replay = codes "replay"
inspection_name Audit = codes "audit"

-- the name of the command
abbrev pub name_of : Order → Text
name_of (compile system) = codes "compile"
name_of (run threads system scenario) = codes "run"
name_of (judge how system scenario trace) = inspection_name how
name_of (make rounds) = codes "make"

-- the value of a flag, as `clap` keeps it
abbrev pub flag_text : Bool → Text
flag_text true = codes "true"
flag_text false = codes "false"

-- the arguments of a command are those of the order
abbrev pub HasArguments : List Row → Order → Type 0
HasArguments rows (compile system) = first_of (codes "system") rows ≡ Some system
HasArguments rows (run threads system scenario) = (one_of (codes "threads") rows ≡ Some (flag_text threads))
    × (first_of (codes "system") rows ≡ Some system) × (first_of (codes "scenario") rows ≡ Some scenario)
HasArguments rows (judge how system scenario trace) = (first_of (codes "system") rows ≡ Some system)
    × (first_of (codes "scenario") rows ≡ Some scenario) × (first_of (codes "trace") rows ≡ Some trace)
HasArguments rows (make rounds) = option_and_then rounds_of (first_of (codes "rounds") rows) ≡ Some rounds

-- the command and its arguments are those of the order
abbrev pub AskFor : Option (Text × List Row) → Order → Type 0
AskFor None o = ⊥
AskFor (Some found) o = (found.0 ≡ name_of o) × HasArguments found.1 o
