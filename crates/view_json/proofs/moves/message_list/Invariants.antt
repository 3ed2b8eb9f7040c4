use Rattle.std.proofs.Common.{◌≡◌, ◌++◌, drop, map}
use Rattle.view_json.specs.StateJson.{message_json}
use Rattle.serde_json.specs.View.{view}
use Rattle.view_json.proofs.moves.message_list.Given as goal

-- the values so far, and then those of the others
abbrev pub invariant-loop-message : goal.invariant-loop-message
invariant-loop-message l = map view l.list.items ++ map (message_json l.system) (drop l.message-index l.messages) ≡ map (message_json l.system) l.messages
