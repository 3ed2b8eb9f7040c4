use Rattle.machine_calls.specs.Machine.{spm_of_objects}
use Rattle.view_places.specs.StateText.{stall_line}
use Rattle.view_places.proofs.Ranges.{lines_step}
use Rattle.view_places.proofs.stall.put_stall_lines.Goals as goal

pub loop-actor-preserved : goal.loop-actor-preserved
loop-actor-preserved c = lines_step (stall_line c.args.system.now (spm_of_objects c.args.objects.now)) c.loop-actor.actor _ _ _ _ c.loop-actor-test.true c.in_ok-put_stall_line.ensures c.loop-actor.invariant
