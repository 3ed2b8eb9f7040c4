use Rattle.std.proofs.Common.{codes}
use Rattle.std.proofs.lemmas.Result.{on_ok_weaker}
use Rattle.view_texts.specs.CountsText.{some_wait}
use Rattle.view_texts.specs.Columns.{right}
use Rattle.view_texts.specs.Names.{actor_column, actor_width}
use Rattle.view_texts.proofs.Appended.{step}
use Rattle.view_texts.proofs.counts_text.put_some_wait.Goals as goal

pub returns : goal.returns
unfolding some_wait
returns c =
    let s = c.args.system.now in
    on_ok_weaker c.put_wait_words.result
    (λ e.
    let r2 = step c.put_columns.new.text.items c.put_right.new.text.items _ (right 7 c.args.wait.now.entries) _ c.in_ok-put_right.ensures e in
    let r1 = step c.append.new.text.items c.put_columns.new.text.items _ (actor_column s (actor_width s) c.args.actor) _ c.in_ok-put_columns.ensures r2 in
    step c.args.text.now.items c.append.new.text.items _ (codes "  ") _ c.in_ok-append.ensures r1)
    c.put_wait_words.ensures
