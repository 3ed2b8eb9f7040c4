use Rattle.std.proofs.Common.{◌≡◌, take}
use Rattle.std.specs.Prelude.{find, None}
use Rattle.handle_table.specs.Table.{connections, is_owned_from}
use Rattle.handle_table.proofs.connections.Connections.first_of.Given as goal

abbrev pub invariant-loop-place : goal.invariant-loop-place
invariant-loop-place l = find (is_owned_from l.owner.0 l.from) (take l.place (connections l.self-inside.pool)) ≡ None
