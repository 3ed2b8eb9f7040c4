-- The arguments that the commands of both programs have, what the words give to them, and what words that ask for nothing are told.
-- Source: this simulator's command lines; `clap` defines which lists of words a command takes, and what they give to its arguments.
use Rattle.std.specs.Prelude.{◌≡◌, ◌⊎◌, [], ℕ, Bool, List, Option, None, Some, false, true, pos, codes, unwrap_or, MatchOption}
use Rattle.std.specs.Str.Parse.{ParsesUnsigned}
use Rattle.std.specs.declared.num.ParseIntError.{ParseIntError}
use Rattle.clap.specs.Words.{App, IsAmong, ReadsOne, Row, Rule, Text, fault_of, new_app, new_rule, one_of, subcommand_of, with_rule}
use Rattle.clap.specs.Simple.{new_shape}
use Rattle.clap.specs.declared.builder.action.ArgAction.TheVariants.{Set, SetTrue}
use Rattle.clap.specs.declared.builder.value_parser.ValueParser.TheVariants as parser
use Rattle.clap.specs.declared.error.kind.ErrorKind.{ErrorKind}
use Rattle.clap.specs.declared.error.kind.ErrorKind.TheVariants as kind

-- ---- the commands and their arguments

-- a file's name, or another word
abbrev pub file_rule : Text → Rule
file_rule id = record (new_rule id) { required = true; action = Some Set; value_names = 1 }

-- a number, which may be left out
abbrev pub number_rule : Text → Rule
number_rule id = record (new_rule id) { action = Some Set; value_names = 1; parser = Some (parser.Signed (pos 0) (pos 4294967295)) }

-- a number from 1, after an option
abbrev pub option_rule : Text → Rule
option_rule id = record (new_rule id) { long = Some id; action = Some Set; value_names = 1; parser = Some (parser.Signed (pos 1) (pos 4294967295)) }

-- a flag, by its word on the command line
abbrev pub flag_rule : Text → Text → Rule
flag_rule id long = record (new_rule id) { long = Some long; action = Some SetTrue }

-- a command over a system
abbrev pub system_app : Text → App
system_app name = with_rule (new_app name) (file_rule (codes "system"))

-- a command over a system and a scenario
abbrev pub scenario_app : Text → App
scenario_app name = with_rule (system_app name) (file_rule (codes "scenario"))

-- one of a program's commands has to be named; there is a version
abbrev pub top_app : Text → App
top_app name = record (new_app name) { top = record (new_shape name) { has_version = true; subcommand_required = true } }

-- ---- what the words give

-- the number that an argument has, where it is given
abbrev pub IsNumberAt : List Row → Text → Option ℕ → Type 0
IsNumberAt rows id n = MatchOption (one_of id rows) (n ≡ None) (λ text. ReadsOne {E = ParseIntError} (ParsesUnsigned 32 10) text n)

-- the same, or another number where it isn't given
abbrev pub IsNumberOr : List Row → Text → ℕ → ℕ → Type 0
IsNumberOr rows id default number = (n : Option ℕ) × IsNumberAt rows id n × (number ≡ unwrap_or n default)

-- whether a flag is given
pub record IsFlagAt (rows : List Row) (id : Text) (flag : Bool) : Type 0 where
  pub none : one_of id rows ≡ None → flag ≡ false
  pub given : one_of id rows ≡ Some (codes "true") → flag ≡ true
  pub not_given : one_of id rows ≡ Some (codes "false") → flag ≡ false

-- ---- what a program's words ask for, by what a command and its arguments ask for

-- `clap` takes the words, and what they give to the arguments asks for this
abbrev pub AsksBy : {A : Type 0} → App → (Option (Text × List Row) → A → Type 0) → List Text → A → Type 0
AsksBy app IsAskedOf words a = (fault_of app words ≡ []) × IsAskedOf (subcommand_of app words) a

-- nothing is asked for by a command and its arguments
abbrev pub AskNothing : {A : Type 0} → (Option (Text × List Row) → A → Type 0) → Option (Text × List Row) → Type 0
AskNothing {A} IsAskedOf found = (a : A) → IsAskedOf found a → ⊥

-- help and the version are asked for; all else that `clap` doesn't take is a mistake
abbrev pub told_status : ErrorKind → ℕ
told_status kind.DisplayHelp = 0
told_status kind.DisplayVersion = 0
told_status _ = 2

-- `clap` doesn't take the words, by an error of this kind, or nothing is asked for
abbrev pub IsRefusedBy : {A : Type 0} → App → (Option (Text × List Row) → A → Type 0) → List Text → ErrorKind → Type 0
IsRefusedBy app IsAskedOf words k = IsAmong k (fault_of app words) ⊎ ((k ≡ kind.MissingSubcommand) × AskNothing IsAskedOf (subcommand_of app words))

-- the words are no command, or ask for help or the version
abbrev pub IsToldBy : {A : Type 0} → App → (Option (Text × List Row) → A → Type 0) → List Text → ℕ → Type 0
IsToldBy app IsAskedOf words status = (k : ErrorKind) × IsRefusedBy app IsAskedOf words k × (status ≡ told_status k)
