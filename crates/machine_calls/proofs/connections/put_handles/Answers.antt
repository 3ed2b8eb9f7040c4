use Rattle.ffm_model.specs.State.{handle_put}
use Rattle.machine_calls.proofs.Changed.{map_step}
use Rattle.machine_calls.proofs.connections.put_handles.Goals as goal

pub loop-connection-preserved : goal.loop-connection-preserved
loop-connection-preserved c =
    map_step (handle_put c.args.serial c.args.handle) c.args.connections.now c.loop-connection.connections c.loop-connection.connection-index _ _ c.loop-connection-test.true c.loop-connection.auto.connections c.loop-connection.invariant c.put_handle.ensures
