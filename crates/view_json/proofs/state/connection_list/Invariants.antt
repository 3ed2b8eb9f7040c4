use Rattle.std.proofs.Common.{◌≡◌, ◌++◌, drop, map}
use Rattle.view_json.specs.StateJson.{connection_json}
use Rattle.serde_json.specs.View.{view}
use Rattle.view_json.proofs.state.connection_list.Given as goal

-- the values so far, and then those of the others
abbrev pub invariant-loop-connection : goal.invariant-loop-connection
invariant-loop-connection l = map view l.list.items ++ map (connection_json l.system) (drop l.connection-index l.connections) ≡ map (connection_json l.system) l.connections
