-- The command line of `ffm_explore`.
-- Source: this simulator's.
use Rattle.std.specs.Prelude.{Some, true, codes}
use Rattle.clap.specs.Words.{App, Rule, Text, with_rule, with_subcommand}
use Rattle.program_words.specs.Arguments.{file_rule, flag_rule, number_rule, option_rule, scenario_app, top_app}

-- how many states there may be, after an option
abbrev pub states_rule : Rule
states_rule = option_rule (codes "states")

-- whether an order of turns is to be told as the schedule of the scenario's file
abbrev pub scenario_rule : Rule
scenario_rule = flag_rule (codes "as_scenario") (codes "scenario")

-- a line of a script
abbrev pub line_rule : Rule
line_rule = record (number_rule (codes "line")) { required = true }

-- which of an actor's scripts, after an option
abbrev pub context_rule : Rule
context_rule = record (number_rule (codes "context")) { long = Some (codes "context") }

-- a command over a system and a scenario, of at most so many states
abbrev pub command_app : Text → App
command_app name = with_rule (scenario_app name) states_rule

-- a command that seeks a state or an event
abbrev pub seek_app : Text → App
seek_app name = with_rule (command_app name) scenario_rule

abbrev pub entry_app : App
entry_app = with_rule (seek_app (codes "entry")) (file_rule (codes "entry"))

-- a command over an actor's script
abbrev pub script_app : App
script_app = with_rule (command_app (codes "line")) (file_rule (codes "actor"))

abbrev pub line_app : App
line_app = with_rule (with_rule script_app line_rule) context_rule

abbrev pub explore_app : App
explore_app =
    with_subcommand (with_subcommand (with_subcommand (with_subcommand (with_subcommand (top_app (codes "ffm_explore")) (command_app (codes "all")).top) (seek_app (codes "stall")).top) (seek_app (codes "panic")).top) entry_app.top) line_app.top
