-- What the words of `ffm_explore` ask for, as `clap` reads them.
-- Source: this simulator's.
use Rattle.std.specs.Prelude.{◌≡◌, ℕ, List, Option, None, Some, codes}
use Rattle.clap.specs.Words.{Row, Text, first_of}
use Rattle.program_words.specs.Arguments.{AsksBy, IsFlagAt, IsNumberOr, IsToldBy}
use Rattle.program_words.specs.ExploreLine.{explore_app}
use Rattle.program_words.specs.declared.explore.FileNames.{FileNames}
use Rattle.program_words.specs.declared.explore.Question.{Question}
use Rattle.program_words.specs.declared.explore.Question.TheVariants.{All, Stall, Panic, Entry, Line}
use Rattle.program_words.specs.declared.explore.Request.{Request}
use Rattle.program_words.specs.declared.explore.ScriptLine.{ScriptLine}
use Rattle.program_words.specs.declared.explore.TheConstants.{STATES}

pub record AreNamesOf (rows : List Row) (names : FileNames) : Type 0 where
  pub system : first_of (codes "system") rows ≡ Some names.system.now
  pub scenario : first_of (codes "scenario") rows ≡ Some names.scenario.now

-- a line of an actor's script, of the first one where none is named
pub record IsLineOf (rows : List Row) (l : ScriptLine) : Type 0 where
  pub actor : first_of (codes "actor") rows ≡ Some l.actor.now
  pub context : IsNumberOr rows (codes "context") 0 l.context
  pub line : IsNumberOr rows (codes "line") 0 l.line

-- the name of a command and its arguments
abbrev pub IsQuestionOf : Text → List Row → Question → Type 0
IsQuestionOf name rows All = name ≡ codes "all"
IsQuestionOf name rows Stall = name ≡ codes "stall"
IsQuestionOf name rows Panic = name ≡ codes "panic"
IsQuestionOf name rows (Entry text) = (name ≡ codes "entry") × (first_of (codes "entry") rows ≡ Some text.now)
IsQuestionOf name rows (Line l) = (name ≡ codes "line") × IsLineOf rows l

-- what a command asks for by its name and its arguments: a million states where no other number is given
pub record IsRequestBy (name : Text) (rows : List Row) (r : Request) : Type 0 where
  pub question : IsQuestionOf name rows r.question
  pub names : AreNamesOf rows r.names
  pub states : IsNumberOr rows (codes "states") STATES r.states
  pub as_scenario : IsFlagAt rows (codes "as_scenario") r.as_scenario

-- a command and its arguments ask for this
abbrev pub IsRequestOf : Option (Text × List Row) → Request → Type 0
IsRequestOf None r = ⊥
IsRequestOf (Some found) r = IsRequestBy found.0 found.1 r

-- `clap` takes the words, and what they give to the arguments asks for this
abbrev pub AsksFor : List Text → Request → Type 0
AsksFor words r = AsksBy explore_app IsRequestOf words r

-- the words are no command, or ask for help or the version
abbrev pub IsTold : List Text → ℕ → Type 0
IsTold words status = IsToldBy explore_app IsRequestOf words status
