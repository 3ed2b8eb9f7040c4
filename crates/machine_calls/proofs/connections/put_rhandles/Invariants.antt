use Rattle.std.proofs.Common.{◌≡◌, ◌++◌, map, take, drop}
use Rattle.ffm_model.specs.State.{rhandle_put}
use Rattle.machine_calls.proofs.connections.put_rhandles.Given as goal

-- the connections so far are changed
abbrev pub invariant-loop-connection : goal.invariant-loop-connection
invariant-loop-connection l = l.connections ≡ map (rhandle_put l.serial l.rhandle) (take l.connection-index l.fn.connections) ++ drop l.connection-index l.fn.connections
