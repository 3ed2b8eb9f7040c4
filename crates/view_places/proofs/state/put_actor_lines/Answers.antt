use Rattle.machine_calls.specs.Machine.{spm_of_objects}
use Rattle.view_places.specs.StateText.{actor_line}
use Rattle.view_places.proofs.Ranges.{lines_step}
use Rattle.view_places.proofs.state.put_actor_lines.Goals as goal

pub loop-actor-preserved : goal.loop-actor-preserved
loop-actor-preserved c = lines_step (actor_line c.args.system.now (spm_of_objects c.args.objects.now) c.args.last.now) c.loop-actor.actor _ _ _ _ c.loop-actor-test.true c.in_ok-put_actor_line.ensures c.loop-actor.invariant
