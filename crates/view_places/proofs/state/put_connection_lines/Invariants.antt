use Rattle.std.proofs.Common.{◌≡◌, ◌++◌, drop}
use Rattle.std.specs.List.{flat_map}
use Rattle.view_places.specs.StateText.{connection_line}
use Rattle.view_places.proofs.state.put_connection_lines.Given as goal

-- the lines so far, and then those of the other connections
abbrev pub invariant-loop-connection : goal.invariant-loop-connection
invariant-loop-connection l = l.text.items ++ flat_map (connection_line l.system) (drop l.connection-index l.connections) ≡ l.initial.text.items ++ flat_map (connection_line l.system) l.connections
