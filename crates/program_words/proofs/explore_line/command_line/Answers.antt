use Rattle.std.proofs.Common.{◌≡◌, ◌∙◌, ap, codes, refl, true}
use Rattle.std.proofs.lemmas.Result.{IfOk-weaker}
use Rattle.clap.specs.Words.{App, is_simple_and_free, with_subcommand}
use Rattle.program_words.specs.ExploreLine.{command_app, entry_app, explore_app, line_app, seek_app}
use Rattle.program_words.specs.Arguments.{top_app}
use Rattle.program_words.proofs.Commands.{app_with}
use Rattle.program_words.proofs.explore_line.command_line.Goals as goal

abbrev one : App
one = with_subcommand (top_app (codes "ffm_explore")) (command_app (codes "all")).top

abbrev two : App
two = with_subcommand one (seek_app (codes "stall")).top

abbrev three : App
three = with_subcommand two (seek_app (codes "panic")).top

abbrev four : App
four = with_subcommand three entry_app.top

free : is_simple_and_free explore_app ≡ true
free = refl

pub returns-clause-app : goal.returns-clause-app
returns-clause-app c =
    let first = app_with _ _ _ (top_app (codes "ffm_explore")) (command_app (codes "all")) c.in_ok-subcommand.ensures c.program.ensures c.in_ok-command.ensures.own c.in_ok-command.ensures.app in
    let second = app_with _ _ _ one (seek_app (codes "stall")) c.in_ok-subcommand-2.ensures first c.in_ok-seek_command.ensures.own c.in_ok-seek_command.ensures.app in
    let third = app_with _ _ _ two (seek_app (codes "panic")) c.in_ok-subcommand-3.ensures second c.in_ok-seek_command-2.ensures.own c.in_ok-seek_command-2.ensures.app in
    let fourth = app_with _ _ _ three entry_app c.in_ok-subcommand-4.ensures third c.in_ok-entry_command.ensures.own c.in_ok-entry_command.ensures.app in
    IfOk-weaker c.subcommand-5.result _ _
    (λ r added. app_with _ _ r four line_app added fourth c.in_ok-line_command.ensures.own c.in_ok-line_command.ensures.app) c.subcommand-5.ensures

pub returns-clause-simple : goal.returns-clause-simple
returns-clause-simple c = IfOk-weaker c.subcommand-5.result _ _ (λ r is. ap is_simple_and_free is ∙ free) (returns-clause-app c)
