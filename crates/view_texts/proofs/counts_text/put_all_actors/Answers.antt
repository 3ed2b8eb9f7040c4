use Rattle.view_texts.specs.CountsText.{actor_lines}
use Rattle.view_texts.proofs.Ranges.{lines_step}
use Rattle.view_texts.proofs.counts_text.put_all_actors.Goals as goal

pub loop-actor-preserved : goal.loop-actor-preserved
loop-actor-preserved c = lines_step (actor_lines c.args.system.now c.args.counts.now) c.loop-actor.actor _ _ _ _ c.loop-actor-test.true c.in_ok-put_actor_lines.ensures c.loop-actor.invariant
