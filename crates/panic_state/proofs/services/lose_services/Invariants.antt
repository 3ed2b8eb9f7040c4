use Rattle.std.proofs.Common.{◌≡◌, ◌-◌, length}
use Rattle.panic_state.proofs.Walks.{services_from}
use Rattle.panic_state.proofs.services.lose_services.Given as goal

abbrev pub invariant-loop-place : goal.invariant-loop-place
invariant-loop-place l = services_from l.system l.partition.0 l.place l.tables ≡ services_from l.system l.partition.0 0 l.fn.tables

abbrev pub decreases-loop-place : goal.decreases-loop-place
decreases-loop-place l = length l.tables.connections.held - l.place
