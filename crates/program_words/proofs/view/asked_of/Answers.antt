use Rattle.std.proofs.Common.{◌≡◌, inl, inr, map, string_bytes}
use Rattle.std.proofs.lemmas.Result.{err_from_is_err_and}
use Rattle.std.specs.Prelude.{◌⊎◌, List}
use Rattle.clap.specs.Words.{App, HasKind, Text, app_of, fault_of, kind_of, subcommand_rows_of}
use Rattle.clap.specs.declared.builder.value_parser.ValueParser.{ValueParser}
use Rattle.clap.specs.declared.error.Error.{Error}
use Rattle.clap.specs.declared.error.kind.ErrorKind.TheVariants as kind
use Rattle.program_words.specs.Arguments.{told_status}
use Rattle.program_words.specs.View.{IsAskedOf, IsTold}
use Rattle.program_words.specs.ViewLine.{IsFormatParser, view_app}
use Rattle.program_words.proofs.Asking.{asks, nothing, untaken}
use Rattle.program_words.proofs.view.asked_of.Goals as goal

told_by : (found : App) (words : List Text) (e : Error) (p : ValueParser) → IsFormatParser p → found ≡ view_app p → HasKind (fault_of found words) e → (kind_of e ≡ kind.OutOfMemory) ⊎ IsTold words (told_status (kind_of e))
told_by found words e p form is fails = elim (untaken IsAskedOf (view_app p) found words e is fails) [ inl memory ↦ inl memory | inr told ↦ inr (p, form, told) ]

pub returns-in_err-matches-clause-told : goal.returns-in_err-matches-clause-told
returns-in_err-matches-clause-told c =
    let l = c.in_ok-command_line.ensures.app in
    let p = err_from_is_err_and c.from_residual-in_err-matches.result c.from_residual-in_err-matches.ensures.1 in
    rw (p.1, p.2) (told_by (app_of c.in_ok-command_line.field-0) (map string_bytes c.args.words.now) c.in_err-matches.field-0.0 l.0 l.1 l.2 c.in_err-matches.ensures.faults)

pub returns-in-Some-clause-asked : goal.returns-in-Some-clause-asked
returns-in-Some-clause-asked c =
    let l = c.in_ok-command_line.ensures.app in
    (l.0, l.1, asks IsAskedOf (view_app l.0) (app_of c.in_ok-command_line.field-0) (map string_bytes c.args.words.now) (subcommand_rows_of c.in_ok-matches.matches) c.in-Some.asked l.2 c.in_ok-matches.ensures.rows c.in_ok-matches.ensures.faults c.in-Some.ensures)

pub returns-clause-told : goal.returns-clause-told
returns-clause-told c =
    let l = c.in_ok-command_line.ensures.app in
    inr (l.0, l.1, nothing IsAskedOf (view_app l.0) (app_of c.in_ok-command_line.field-0) (map string_bytes c.args.words.now) (subcommand_rows_of c.in_ok-matches.matches) c.in_ok-no_command-in-None.field-0 l.2 c.in_ok-matches.ensures.rows c.in-None.ensures c.in_ok-no_command-in-None.ensures)
