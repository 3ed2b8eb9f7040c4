use Rattle.std.proofs.Common.{◌≡◌, ◌≤◌, ◌&&◌, ◌==◌, take}
use Rattle.std.specs.Prelude.{count_by}
use Rattle.handle_table.specs.Table.{connections}
use Rattle.handle_table.proofs.connections.Connections.in_use.Given as goal

abbrev pub invariant-loop-place : goal.invariant-loop-place
invariant-loop-place l = record {
  counted : l.count ≡ count_by (λ c. (c.client.0 == l.owner.0) && (c.service == l.service)) (take l.place (connections l.self-inside.pool));
  bound : l.count ≤ l.place;
}
