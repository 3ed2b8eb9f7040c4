use Rattle.std.proofs.Common.{◌-◌, length}
use Rattle.panic_state.proofs.Leaving.{Leaves}
use Rattle.panic_state.proofs.client.leave_services.Given as goal

abbrev pub invariant-loop-place : goal.invariant-loop-place
invariant-loop-place l = Leaves l.partition.0 l.fn.tables l.place l.tables

abbrev pub decreases-loop-place : goal.decreases-loop-place
decreases-loop-place l = length l.tables.connections.held - l.place
