use Rattle.std.proofs.Common.{◌∙◌, ap, ◌++◌, Bool}
use Rattle.std.proofs.lemmas.Result.{on_ok_weaker}
use Rattle.view_texts.proofs.Appended.{step}
use Rattle.explore_commands.specs.Texts.{counts_text, is_short, sums_text, told_text}
use Rattle.explore_commands.proofs.texts.put_told.Goals as goal

pub returns : goal.returns
unfolding told_text
returns c =
    let s = c.args.system.now in
    let told = c.args.told.now in
    let counts = c.in_ok-put_counts.ensures ∙ ap (λ (short : Bool). c.put_sums.new.text.items ++ counts_text s told short) c.is_short.ensures in
    on_ok_weaker c.put_extent.result
    (λ e.
    let r1 = step c.put_sums.new.text.items c.put_counts.new.text.items _ (counts_text s told (is_short told.extent)) _ counts e in
    step c.args.text.now.items c.put_sums.new.text.items _ (sums_text told) _ c.in_ok-put_sums.ensures r1)
    c.put_extent.ensures
