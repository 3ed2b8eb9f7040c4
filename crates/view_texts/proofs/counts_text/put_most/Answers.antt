use Rattle.std.proofs.Common.{codes}
use Rattle.std.proofs.lemmas.Result.{on_ok_weaker}
use Rattle.ffm_model.specs.Names.{capacity}
use Rattle.view_texts.specs.CountsText.{most_text, of_text}
use Rattle.view_texts.proofs.Appended.{step}
use Rattle.view_texts.proofs.counts_text.put_most.Goals as goal

pub returns : goal.returns
unfolding most_text
returns c =
    let s = c.args.system.now in
    on_ok_weaker c.put_most_messages.result
    (λ e.
    let r2 = step c.put_most_connections.new.text.items c.append-2.new.text.items _ (codes "  messages    ") _ c.in_ok-append-2.ensures e in
    let r1 = step c.append.new.text.items c.put_most_connections.new.text.items _ (of_text c.args.counts.now.most_connections (capacity s)) _ c.in_ok-put_most_connections.ensures r2 in
    step c.args.text.now.items c.append.new.text.items _ (codes "most at a time, of those declared\n  connections ") _ c.in_ok-append.ensures r1)
    c.put_most_messages.ensures
