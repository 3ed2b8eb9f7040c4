-- The commands and their arguments, as `clap` is given them.
-- Source: this simulator's command line.
use Rattle.std.specs.Prelude.{true, Some, codes}
use Rattle.clap.specs.Words.{App, Rule, Text, new_app, new_rule, with_rule, with_subcommand}
use Rattle.clap.specs.declared.builder.action.ArgAction.TheVariants.{Set, SetTrue}

-- an argument of one word
abbrev pub word_rule : Text → Rule
word_rule id = record (new_rule id) { required = true; action = Some Set }

-- the flag of a run
abbrev pub threads_rule : Rule
threads_rule = record (new_rule (codes "threads")) { long = Some (codes "threads"); action = Some SetTrue }

abbrev pub compile_app : App
compile_app = with_rule (new_app (codes "compile")) (word_rule (codes "system"))

abbrev pub run_app : App
run_app = with_rule (with_rule (with_rule (new_app (codes "run")) threads_rule) (word_rule (codes "system"))) (word_rule (codes "scenario"))

-- a command that judges a trace
abbrev pub trace_app : Text → App
trace_app name = with_rule (with_rule (with_rule (new_app name) (word_rule (codes "system"))) (word_rule (codes "scenario"))) (word_rule (codes "trace"))

abbrev pub make_app : App
make_app = with_rule (new_app (codes "make")) (word_rule (codes "rounds"))

abbrev pub ffm_app : App
ffm_app = with_subcommand (with_subcommand (with_subcommand (with_subcommand (with_subcommand (new_app (codes "ffm"))
    compile_app.top) run_app.top) (trace_app (codes "replay")).top) (trace_app (codes "audit")).top) make_app.top
