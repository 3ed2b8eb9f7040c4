use Rattle.std.proofs.Common.{◌≡◌, ◌++◌, ◌-◌}
use Rattle.std.specs.List.{range_with_len}
use Rattle.view_json.proofs.actors.all_actors.Given as goal

-- the actors so far, and then the others
abbrev pub invariant-loop-actor : goal.invariant-loop-actor
invariant-loop-actor l = l.all.items ++ range_with_len l.actor (l.actor-end - l.actor) ≡ range_with_len 0 l.actor-end
