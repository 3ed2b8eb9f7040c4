use Rattle.std.proofs.Common.{◌≡◌, ◌++◌, map, take, drop}
use Rattle.ffm_model.specs.State.{handle_put}
use Rattle.machine_calls.proofs.connections.put_handles.Given as goal

-- the connections so far are changed
abbrev pub invariant-loop-connection : goal.invariant-loop-connection
invariant-loop-connection l = l.connections ≡ map (handle_put l.serial l.handle) (take l.connection-index l.fn.connections) ++ drop l.connection-index l.fn.connections
