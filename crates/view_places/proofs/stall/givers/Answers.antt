use Rattle.machine_calls.specs.Machine.{spm_of_objects}
use Rattle.view_places.specs.Waits.{could_give}
use Rattle.view_places.proofs.Ranges.{filter_step}
use Rattle.view_places.proofs.stall.givers.Goals as goal

pub loop-actor-preserved : goal.loop-actor-preserved
loop-actor-preserved c = filter_step (could_give c.args.system.now (spm_of_objects c.args.objects.now) c.args.partition c.args.signal) c.loop-actor.actor _ _ _ _ _ c.loop-actor-test.true c.could_give-is_giver.ensures c.in_ok-add_where.ensures c.loop-actor.invariant
