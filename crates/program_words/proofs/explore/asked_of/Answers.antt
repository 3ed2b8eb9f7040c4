use Rattle.std.proofs.Common.{inr, map, string_bytes}
use Rattle.std.proofs.lemmas.Result.{err_from_is_err_and}
use Rattle.clap.specs.Words.{app_of, subcommand_rows_of}
use Rattle.program_words.specs.Explore.{IsRequestOf}
use Rattle.program_words.specs.ExploreLine.{explore_app}
use Rattle.program_words.proofs.Asking.{asks, nothing, untaken}
use Rattle.program_words.proofs.explore.asked_of.Goals as goal

pub returns-in_err-matches-clause-told : goal.returns-in_err-matches-clause-told
returns-in_err-matches-clause-told c =
    let p = err_from_is_err_and c.from_residual-in_err-matches.result c.from_residual-in_err-matches.ensures.1 in
    rw (p.1, p.2) (untaken IsRequestOf explore_app (app_of c.in_ok-command_line.field-0) (map string_bytes c.args.words.now) c.in_err-matches.field-0.0 c.in_ok-command_line.ensures.app c.in_err-matches.ensures.faults)

pub returns-in-Some-clause-asked : goal.returns-in-Some-clause-asked
returns-in-Some-clause-asked c =
    asks IsRequestOf explore_app (app_of c.in_ok-command_line.field-0) (map string_bytes c.args.words.now) (subcommand_rows_of c.in_ok-matches.matches) c.in-Some.request c.in_ok-command_line.ensures.app c.in_ok-matches.ensures.rows c.in_ok-matches.ensures.faults c.in-Some.ensures

pub returns-clause-told : goal.returns-clause-told
returns-clause-told c =
    inr (nothing IsRequestOf explore_app (app_of c.in_ok-command_line.field-0) (map string_bytes c.args.words.now) (subcommand_rows_of c.in_ok-matches.matches) c.in_ok-no_command-in-None.field-0 c.in_ok-command_line.ensures.app c.in_ok-matches.ensures.rows c.in-None.ensures c.in_ok-no_command-in-None.ensures)
