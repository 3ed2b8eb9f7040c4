use Rattle.std.proofs.Common.{codes}
use Rattle.std.proofs.lemmas.Result.{on_ok_weaker}
use Rattle.std.specs.Fmt.{decimal}
use Rattle.view_texts.specs.CountsText.{bytes_text}
use Rattle.view_texts.proofs.Appended.{step}
use Rattle.view_texts.proofs.counts_text.put_bytes.Goals as goal

pub returns : goal.returns
unfolding bytes_text
returns c =
    on_ok_weaker c.append-4.result
    (λ e.
    let r5 = step c.append-3.new.text.items c.put_number-3.new.text.items _ (decimal c.args.moved.now.written) _ c.in_ok-put_number-3.ensures e in
    let r4 = step c.put_number-2.new.text.items c.append-3.new.text.items _ (codes "  written ") _ c.in_ok-append-3.ensures r5 in
    let r3 = step c.append-2.new.text.items c.put_number-2.new.text.items _ (decimal c.args.moved.now.skipped) _ c.in_ok-put_number-2.ensures r4 in
    let r2 = step c.put_number.new.text.items c.append-2.new.text.items _ (codes "  skipped ") _ c.in_ok-append-2.ensures r3 in
    let r1 = step c.append.new.text.items c.put_number.new.text.items _ (decimal c.args.moved.now.read) _ c.in_ok-put_number.ensures r2 in
    step c.args.text.now.items c.append.new.text.items _ (codes "  read ") _ c.in_ok-append.ensures r1)
    c.append-4.ensures
