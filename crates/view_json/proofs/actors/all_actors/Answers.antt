use Rattle.view_json.proofs.Ranges.{number_step}
use Rattle.view_json.proofs.actors.all_actors.Goals as goal

pub loop-actor-preserved : goal.loop-actor-preserved
loop-actor-preserved c = number_step c.loop-actor.actor _ _ _ _ c.loop-actor-test.true c.in_ok-push.ensures.items c.loop-actor.invariant
