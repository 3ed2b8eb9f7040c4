use Rattle.std.proofs.lemmas.Result.{on_ok_weaker}
use Rattle.view_texts.proofs.Appended.{step}
use Rattle.explore_commands.specs.Texts.{between_text, first_text}
use Rattle.explore_commands.proofs.texts.put_between.Goals as goal

pub returns : goal.returns
unfolding between_text
returns c =
    on_ok_weaker c.append-2.result
    (λ e.
    let r1 = step c.append.new.text.items c.put_first.new.text.items _ (first_text c.args.system.now c.args.turns.now) _ c.in_ok-put_first.ensures e in
    step c.args.text.now.items c.append.new.text.items _ c.args.before.now _ c.in_ok-append.ensures r1)
    c.append-2.ensures
