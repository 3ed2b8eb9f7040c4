-- What the words of `ffm_view` ask for, as `clap` reads them.
-- Source: this simulator's.
use Rattle.std.specs.Prelude.{◌≡◌, ◌≢◌, ℕ, List, Option, None, Some, codes}
use Rattle.std.specs.Option.{option_map}
use Rattle.clap.specs.Words.{Row, Text, first_of}
use Rattle.clap.specs.declared.builder.value_parser.ValueParser.{ValueParser}
use Rattle.program_words.specs.Arguments.{AsksBy, IsNumberAt, IsNumberOr, IsToldBy}
use Rattle.program_words.specs.ViewLine.{IsFormatParser, view_app}
use Rattle.program_words.specs.declared.view.Format.{Format}
use Rattle.program_words.specs.declared.view.Format.TheVariants as format
use Rattle.program_words.specs.declared.view.Aspect.{Aspect}
use Rattle.program_words.specs.declared.view.Aspect.TheVariants as aspect
use Rattle.program_words.specs.declared.view.Asked.{Asked}
use Rattle.program_words.specs.declared.view.Asked.TheVariants as asked
use Rattle.program_words.specs.declared.view.ExplainedNames.{ExplainedNames}
use Rattle.program_words.specs.declared.view.FileNames.{FileNames}
use Rattle.program_words.specs.declared.view.Request.{Request}
use Rattle.program_words.specs.declared.view.Writing.{Writing}
use Rattle.program_words.specs.declared.view.Writing.TheVariants as writing

abbrev pub IsFormatAt : List Row → Format → Type 0
IsFormatAt rows format.Html = first_of (codes "format") rows ≡ Some (codes "html")
IsFormatAt rows format.Mermaid = first_of (codes "format") rows ≢ Some (codes "html")

-- the flag is given, or it isn't
abbrev pub IsWritingAt : List Row → Writing → Type 0
IsWritingAt rows writing.Json = first_of (codes "json") rows ≡ Some (codes "true")
IsWritingAt rows writing.Text = first_of (codes "json") rows ≢ Some (codes "true")

-- the name of a command and its arguments
abbrev pub IsAspectOf : Text → List Row → Aspect → Type 0
IsAspectOf name rows (aspect.State place) = (name ≡ codes "state") × IsNumberAt rows (codes "place") place
IsAspectOf name rows (aspect.Why place) = (name ≡ codes "why") × IsNumberAt rows (codes "place") place
IsAspectOf name rows (aspect.Ask place call) = (name ≡ codes "ask") × (IsNumberOr rows (codes "place") 0 place × (first_of (codes "call") rows ≡ Some call.now))
IsAspectOf name rows (aspect.Diagram from to format actors) =
    (name ≡ codes "diagram") × (IsNumberAt rows (codes "from") from × (IsNumberAt rows (codes "to") to × (IsFormatAt rows format × (option_map (λ names. names.now) actors ≡ first_of (codes "actors") rows))))
IsAspectOf name rows aspect.Stats = name ≡ codes "stats"

pub record AreNamesOf (rows : List Row) (names : FileNames) : Type 0 where
  pub system : first_of (codes "system") rows ≡ Some names.system.now
  pub scenario : first_of (codes "scenario") rows ≡ Some names.scenario.now
  pub trace : first_of (codes "trace") rows ≡ Some names.trace.now

-- the name of a command and its arguments ask for an aspect of a trace
abbrev pub IsRequestOf : Text → List Row → Request → Type 0
IsRequestOf name rows r = AreNamesOf rows r.names × (IsAspectOf name rows r.aspect × IsWritingAt rows r.writing)

pub record AreExplainedOf (rows : List Row) (names : ExplainedNames) : Type 0 where
  pub system : first_of (codes "system") rows ≡ Some names.system.now
  pub scenario : option_map (λ name. name.now) names.scenario ≡ first_of (codes "scenario") rows
  pub trace : option_map (λ name. name.now) names.trace ≡ first_of (codes "trace") rows

-- a command and its arguments ask for this
abbrev pub IsAskedOf : Option (Text × List Row) → Asked → Type 0
IsAskedOf None a = ⊥
IsAskedOf (Some found) (asked.View r) = (found.0 ≢ codes "explain") × IsRequestOf found.0 found.1 r
IsAskedOf (Some found) (asked.Explain names) = (found.0 ≡ codes "explain") × AreExplainedOf found.1 names

-- `clap` takes the words, and what they give to the arguments asks for this
abbrev pub AsksFor : List Text → Asked → Type 0
AsksFor words a = (p : ValueParser) × IsFormatParser p × AsksBy (view_app p) IsAskedOf words a

-- no aspect of a trace is asked for by the name of a command and its arguments
abbrev pub AskNoAspect : Text → List Row → Type 0
AskNoAspect name rows = (r : Request) → IsRequestOf name rows r → ⊥

-- the words are no command, or ask for help or the version
abbrev pub IsTold : List Text → ℕ → Type 0
IsTold words status = (p : ValueParser) × IsFormatParser p × IsToldBy (view_app p) IsAskedOf words status
