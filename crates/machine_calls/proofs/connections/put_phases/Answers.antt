use Rattle.ffm_model.specs.State.{phase_put}
use Rattle.machine_calls.proofs.Changed.{map_step}
use Rattle.machine_calls.proofs.connections.put_phases.Goals as goal

pub loop-connection-preserved : goal.loop-connection-preserved
loop-connection-preserved c =
    map_step (phase_put c.args.serial c.args.phase) c.args.connections.now c.loop-connection.connections c.loop-connection.connection-index _ _ c.loop-connection-test.true c.loop-connection.auto.connections c.loop-connection.invariant c.put_phase.ensures
