use Rattle.std.proofs.Common.{codes}
use Rattle.std.proofs.lemmas.Result.{on_ok_weaker}
use Rattle.std.specs.Fmt.{decimal}
use Rattle.view_texts.specs.CountsText.{of_text}
use Rattle.view_texts.proofs.Appended.{step}
use Rattle.view_texts.proofs.counts_text.put_of.Goals as goal

pub returns : goal.returns
unfolding of_text
returns c =
    on_ok_weaker c.append-2.result
    (λ e.
    let r2 = step c.append.new.text.items c.put_size-2.new.text.items _ (decimal c.args.total) _ c.in_ok-put_size-2.ensures e in
    let r1 = step c.put_size.new.text.items c.append.new.text.items _ (codes " of ") _ c.in_ok-append.ensures r2 in
    step c.args.text.now.items c.put_size.new.text.items _ (decimal c.args.number) _ c.in_ok-put_size.ensures r1)
    c.append-2.ensures
