use Rattle.std.proofs.Common.{◌≡◌, ◌++◌, drop}
use Rattle.std.specs.List.{flat_map}
use Rattle.view_places.specs.StateText.{message_line}
use Rattle.view_places.proofs.state.put_message_lines.Given as goal

-- the lines so far, and then those of the other messages
abbrev pub invariant-loop-message : goal.invariant-loop-message
invariant-loop-message l = l.text.items ++ flat_map (message_line l.system) (drop l.message-index l.messages) ≡ l.initial.text.items ++ flat_map (message_line l.system) l.messages
