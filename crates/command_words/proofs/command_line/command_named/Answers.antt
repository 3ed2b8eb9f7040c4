use Rattle.std.proofs.Common.{◌∙◌, option_map, sym}
use Rattle.clap.specs.Words.{found_of, rows_of}
use Rattle.command_words.specs.Words.{order}
use Rattle.command_words.specs.declared.words.Inspection.TheVariants.{Audit, Replay}
use Rattle.command_words.proofs.Getters.{judge_asked}
use Rattle.command_words.proofs.command_line.command_named.Goals as goal

pub returns-in-replay : goal.returns-in-replay
returns-in-replay c = λ o named. judge_asked o Replay (rows_of (found_of c.args.found.now)) (option_map order c.trace_of.result) (sym c.in-replay.is ∙ named) c.trace_of.ensures

pub returns-in-audit : goal.returns-in-audit
returns-in-audit c = λ o named. judge_asked o Audit (rows_of (found_of c.args.found.now)) (option_map order c.trace_of-in-audit.result) (sym c.in-audit.is ∙ named) c.trace_of-in-audit.ensures
