use Rattle.std.proofs.Common.{◌≡◌, ◌∙◌, ap, codes, refl, true}
use Rattle.std.proofs.lemmas.Result.{IfOk-weaker}
use Rattle.clap.specs.Words.{App, is_simple_and_free, with_subcommand}
use Rattle.clap.specs.declared.builder.value_parser.ValueParser.{ValueParser}
use Rattle.program_words.specs.ViewLine.{ask_app, diagram_app, explain_app, place_app, stats_app, view_app}
use Rattle.program_words.specs.Arguments.{top_app}
use Rattle.program_words.proofs.Commands.{app_with}
use Rattle.program_words.proofs.view_line.command_line.Goals as goal

abbrev one : App
one = with_subcommand (top_app (codes "ffm_view")) (place_app (codes "state")).top

abbrev two : App
two = with_subcommand one (place_app (codes "why")).top

abbrev three : App
three = with_subcommand two ask_app.top

abbrev four : ValueParser → App
four p = with_subcommand three (diagram_app p).top

abbrev five : ValueParser → App
five p = with_subcommand (four p) stats_app.top

free : (p : ValueParser) → is_simple_and_free (view_app p) ≡ true
free p = refl

pub returns-clause-app : goal.returns-clause-app
returns-clause-app c =
    let d = c.in_ok-diagram_command.ensures.app in
    let first = app_with _ _ _ (top_app (codes "ffm_view")) (place_app (codes "state")) c.in_ok-subcommand.ensures c.program.ensures c.in_ok-state_command.ensures.own c.in_ok-state_command.ensures.app in
    let second = app_with _ _ _ one (place_app (codes "why")) c.in_ok-subcommand-2.ensures first c.in_ok-why_command.ensures.own c.in_ok-why_command.ensures.app in
    let third = app_with _ _ _ two ask_app c.in_ok-subcommand-3.ensures second c.in_ok-ask_command.ensures.own c.in_ok-ask_command.ensures.app in
    let fourth = app_with _ _ _ three (diagram_app d.0) c.in_ok-subcommand-4.ensures third c.in_ok-diagram_command.ensures.own d.2 in
    let fifth = app_with _ _ _ (four d.0) stats_app c.in_ok-subcommand-5.ensures fourth c.in_ok-stats_command.ensures.own c.in_ok-stats_command.ensures.app in
    IfOk-weaker c.subcommand-6.result _ _
    (λ r added. (d.0, d.1, app_with _ _ r (five d.0) explain_app added fifth c.in_ok-explain_command.ensures.own c.in_ok-explain_command.ensures.app)) c.subcommand-6.ensures

pub returns-clause-simple : goal.returns-clause-simple
returns-clause-simple c = IfOk-weaker c.subcommand-6.result _ _ (λ r is. ap is_simple_and_free is.2 ∙ free is.0) (returns-clause-app c)
