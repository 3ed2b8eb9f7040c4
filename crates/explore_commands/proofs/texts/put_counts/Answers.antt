use Rattle.std.proofs.Common.{codes}
use Rattle.std.proofs.lemmas.Result.{on_ok_weaker}
use Rattle.view_texts.proofs.Appended.{step}
use Rattle.explore_commands.specs.Texts.{count_text, counted_text, counts_text}
use Rattle.explore_commands.proofs.texts.put_counts.Goals as goal

pub returns : goal.returns
unfolding counts_text
returns c =
    let told = c.args.told.now in
    let short = c.args.is_short in
    on_ok_weaker c.put_found-2.result
    (λ e.
    let r2 = step c.append.new.text.items c.put_found.new.text.items _ (counted_text c.args.system.now (codes "stalled") told.stalled short) _ c.in_ok-put_found.ensures e in
    let r1 = step c.put_count.new.text.items c.append.new.text.items _ (codes "\n") _ c.in_ok-append.ensures r2 in
    step c.args.text.now.items c.put_count.new.text.items _ (count_text (codes "quiet") told.quiet short) _ c.in_ok-put_count.ensures r1)
    c.put_found-2.ensures
