use Rattle.std.proofs.Common.{codes}
use Rattle.std.proofs.lemmas.Result.{on_ok_weaker}
use Rattle.view_texts.specs.CountsText.{calls_text}
use Rattle.view_texts.proofs.Appended.{step}
use Rattle.view_texts.proofs.counts_text.put_calls.Goals as goal

pub returns : goal.returns
unfolding calls_text
returns c =
    on_ok_weaker c.put_all_actors.result
    (λ e.
    step c.args.text.now.items c.append.new.text.items _ (codes "entries by actor and call\n") _ c.in_ok-append.ensures e)
    c.put_all_actors.ensures
