use Rattle.std.proofs.lemmas.Result.{on_ok_weaker}
use Rattle.std.specs.Fmt.{decimal}
use Rattle.view_texts.proofs.Appended.{step}
use Rattle.explore_commands.specs.Texts.{numbered_text}
use Rattle.explore_commands.proofs.texts.put_numbered.Goals as goal

pub returns : goal.returns
unfolding numbered_text
returns c =
    on_ok_weaker c.append-2.result
    (λ e.
    let r1 = step c.append.new.text.items c.append_number.new.text.items _ (decimal c.args.number) _ c.in_ok-append_number.ensures e in
    step c.args.text.now.items c.append.new.text.items _ c.args.before.now _ c.in_ok-append.ensures r1)
    c.append-2.ensures
