-- The command line of `ffm_view`.
-- Source: this simulator's.
use Rattle.std.specs.Prelude.{◌≡◌, ◌∷◌, [], Some, true, codes, map}
use Rattle.clap.specs.Words.{App, Rule, Text, new_rule, with_rule, with_subcommand}
use Rattle.clap.specs.declared.builder.action.ArgAction.TheVariants.{Set}
use Rattle.clap.specs.declared.builder.value_parser.ValueParser.{ValueParser}
use Rattle.clap.specs.declared.builder.value_parser.ValueParser.TheVariants as parser
use Rattle.program_words.specs.Arguments.{file_rule, flag_rule, number_rule, option_rule, scenario_app, system_app, top_app}

-- a file that may be left out
abbrev pub further_rule : Text → Rule
further_rule id = record (new_rule id) { action = Some Set; value_names = 1 }

-- the place of an entry; 0 is the opening
abbrev pub place_rule : Rule
place_rule = number_rule (codes "place")

-- a command over the files of a trace
abbrev pub files_app : Text → App
files_app name = with_rule (scenario_app name) (file_rule (codes "trace"))

-- a flag that asks for JSON
abbrev pub json_rule : Rule
json_rule = flag_rule (codes "json") (codes "json")

-- a command over the files of a trace, perhaps with a place and the flag
abbrev pub place_app : Text → App
place_app name = with_rule (with_rule (files_app name) place_rule) json_rule

abbrev pub stats_app : App
stats_app = with_rule (files_app (codes "stats")) json_rule

-- a place and a call
abbrev pub ask_app : App
ask_app = with_rule (with_rule (files_app (codes "ask")) (record place_rule { required = true })) (file_rule (codes "call"))

-- the parser of a format takes its two names
abbrev pub IsFormatParser : ValueParser → Type 0
IsFormatParser (parser.Names names) = map (λ name. name.now) names.now ≡ codes "mermaid" ∷ codes "html" ∷ []
IsFormatParser _ = ⊥

abbrev pub format_rule : ValueParser → Rule
format_rule p = record (new_rule (codes "format")) { long = Some (codes "format"); action = Some Set; parser = Some p }

-- names of actors, after an option
abbrev pub actors_rule : Rule
actors_rule = record (new_rule (codes "actors")) { long = Some (codes "actors"); action = Some Set; value_names = 1 }

-- the entries between two places
abbrev pub part_app : App
part_app = with_rule (with_rule (files_app (codes "diagram")) (option_rule (codes "from"))) (option_rule (codes "to"))

abbrev pub diagram_app : ValueParser → App
diagram_app p = with_rule (with_rule part_app (format_rule p)) actors_rule

-- a system, perhaps with a scenario, and then perhaps with a trace
abbrev pub explain_app : App
explain_app = with_rule (with_rule (system_app (codes "explain")) (further_rule (codes "scenario"))) (further_rule (codes "trace"))

abbrev pub view_app : ValueParser → App
view_app p =
    with_subcommand (with_subcommand (with_subcommand (with_subcommand (with_subcommand (with_subcommand (top_app (codes "ffm_view")) (place_app (codes "state")).top) (place_app (codes "why")).top) ask_app.top) (diagram_app p).top) stats_app.top) explain_app.top
