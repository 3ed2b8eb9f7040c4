use Rattle.std.proofs.Common.{codes}
use Rattle.std.proofs.lemmas.Result.{IfOk-weaker}
use Rattle.clap.specs.Words.{App, new_app, with_subcommand}
use Rattle.command_words.specs.CommandLine.{compile_app, make_app, run_app, trace_app}
use Rattle.command_words.proofs.Commands.{app_with}
use Rattle.command_words.proofs.command_line.command_line.Goals as goal

abbrev one : App
one = with_subcommand (new_app (codes "ffm")) compile_app.top

abbrev two : App
two = with_subcommand one run_app.top

abbrev three : App
three = with_subcommand two (trace_app (codes "replay")).top

abbrev four : App
four = with_subcommand three (trace_app (codes "audit")).top

pub returns : goal.returns
returns c =
    let first = app_with _ _ _ (new_app (codes "ffm")) compile_app c.in_ok-subcommand.ensures c.new.ensures.app c.in_ok-compile_command.ensures.own c.in_ok-compile_command.ensures.app in
    let second = app_with _ _ _ one run_app c.in_ok-subcommand-2.ensures first c.in_ok-run_command.ensures.own c.in_ok-run_command.ensures.app in
    let third = app_with _ _ _ two (trace_app (codes "replay")) c.in_ok-subcommand-3.ensures second c.in_ok-trace_command.ensures.own c.in_ok-trace_command.ensures.app in
    let fourth = app_with _ _ _ three (trace_app (codes "audit")) c.in_ok-subcommand-4.ensures third c.in_ok-trace_command-2.ensures.own c.in_ok-trace_command-2.ensures.app in
    IfOk-weaker c.subcommand-5.result _ _
    (λ r added. app_with _ _ r four make_app added fourth c.in_ok-make_command.ensures.own c.in_ok-make_command.ensures.app) c.subcommand-5.ensures
