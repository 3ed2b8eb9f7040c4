use Rattle.std.proofs.Common.{codes}
use Rattle.std.proofs.lemmas.Result.{on_ok_weaker}
use Rattle.std.proofs.Common.{max}
use Rattle.view_texts.specs.CountsText.{some_calls}
use Rattle.view_texts.specs.Columns.{left, right}
use Rattle.view_texts.specs.Names.{actor_width}
use Rattle.view_texts.specs.Calls.{name_at}
use Rattle.view_texts.proofs.Appended.{step}
use Rattle.view_texts.proofs.counts_text.put_some_calls.Goals as goal

pub returns : goal.returns
unfolding some_calls
returns c =
    let s = c.args.system.now in
    on_ok_weaker c.append-2.result
    (λ e.
    let r2 = step c.put_call_name.new.text.items c.put_right.new.text.items _ (right 7 c.args.count) _ c.in_ok-put_right.ensures e in
    let r1 = step c.append.new.text.items c.put_call_name.new.text.items _ (left (max (actor_width s) 21) (name_at c.args.call)) _ c.in_ok-put_call_name.ensures r2 in
    step c.args.text.now.items c.append.new.text.items _ (codes "      ") _ c.in_ok-append.ensures r1)
    c.append-2.ensures
