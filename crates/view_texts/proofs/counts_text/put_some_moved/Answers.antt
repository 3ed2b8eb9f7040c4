use Rattle.std.proofs.Common.{codes}
use Rattle.std.proofs.lemmas.Result.{on_ok_weaker}
use Rattle.view_texts.specs.CountsText.{some_moved}
use Rattle.view_texts.proofs.Appended.{step}
use Rattle.view_texts.proofs.counts_text.put_some_moved.Goals as goal

pub returns : goal.returns
unfolding some_moved
returns c =
    on_ok_weaker c.put_moved_lines.result
    (λ e.
    step c.args.text.now.items c.append.new.text.items _ (codes "bytes moved by client and service\n") _ c.in_ok-append.ensures e)
    c.put_moved_lines.ensures
