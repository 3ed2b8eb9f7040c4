use Rattle.std.proofs.Common.{codes}
use Rattle.std.proofs.lemmas.Result.{on_ok_weaker}
use Rattle.std.specs.Fmt.{decimal}
use Rattle.view_texts.proofs.Appended.{step}
use Rattle.explore_commands.specs.Texts.{numbered_text, sums_text}
use Rattle.explore_commands.proofs.texts.put_sums.Goals as goal

pub returns : goal.returns
unfolding sums_text
returns c =
    let told = c.args.told.now in
    on_ok_weaker c.append.result
    (λ e.
    let r1 = step c.put_numbered.new.text.items c.put_size.new.text.items _ (decimal told.steps) _ c.in_ok-put_size.ensures e in
    step c.args.text.now.items c.put_numbered.new.text.items _ (numbered_text (codes "states ") told.states (codes " steps ")) _ c.in_ok-put_numbered.ensures r1)
    c.append.ensures
