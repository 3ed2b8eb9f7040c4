use Rattle.view_texts.specs.CountsText.{wait_at}
use Rattle.view_texts.proofs.Ranges.{lines_step}
use Rattle.view_texts.proofs.counts_text.put_all_waits.Goals as goal

pub loop-actor-preserved : goal.loop-actor-preserved
loop-actor-preserved c = lines_step (wait_at c.args.system.now c.args.waits.now) c.loop-actor.actor _ _ _ _ c.loop-actor-test.true c.in_ok-put_wait_at.ensures c.loop-actor.invariant
