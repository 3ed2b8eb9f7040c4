use Rattle.std.proofs.Common.{◌∙◌, ap, map, string_bytes, subst, sym}
use Rattle.std.proofs.lemmas.Result.{IfErr-weaker, IfOk-weaker}
use Rattle.clap.specs.Words.{is_simple, subcommand_of, takes}
use Rattle.command_words.specs.Matches.{AskFor}
use Rattle.command_words.proofs.Accepted.{accepted_taken}
use Rattle.command_words.proofs.command_line.parsed.Goals as goal

pub returns : goal.returns
returns c =
    let words = map string_bytes c.args.words.now in
    let app = c.in_ok-command_line.ensures in
    let parse = c.try_get_matches_from in
    record {
      ok = λ o e. IfOk-weaker parse.result _ _
          (λ m h. subst (λ f. AskFor f o) (sym ((h (ap is_simple app)).1 ∙ ap (λ a. subcommand_of a words) app)) (accepted_taken words o e).asks) parse.ensures.matches;
      err = λ o e. IfErr-weaker parse.result _ _ (λ x h. h (ap (λ a. takes a words) app ∙ (accepted_taken words o e).takes)) parse.ensures.passes;
    }
