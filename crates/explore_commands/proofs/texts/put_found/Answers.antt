use Rattle.std.proofs.lemmas.Result.{on_ok_weaker}
use Rattle.view_texts.proofs.Appended.{step}
use Rattle.explore_commands.specs.Texts.{count_text, counted_text, first_told}
use Rattle.explore_commands.proofs.texts.put_found.Goals as goal

pub returns : goal.returns
unfolding counted_text
returns c =
    let found = c.args.found.now in
    on_ok_weaker c.append.result
    (λ e.
    let r1 = step c.put_count.new.text.items c.put_first_told.new.text.items _ (first_told c.args.system.now found.first) _ c.in_ok-put_first_told.ensures e in
    step c.args.text.now.items c.put_count.new.text.items _ (count_text c.args.name.now found.count c.args.is_short) _ c.in_ok-put_count.ensures r1)
    c.append.ensures
