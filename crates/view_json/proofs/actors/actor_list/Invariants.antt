use Rattle.std.proofs.Common.{◌≡◌, ◌++◌, drop, map}
use Rattle.view_json.specs.Values.{actor_json}
use Rattle.serde_json.specs.View.{view}
use Rattle.view_json.proofs.actors.actor_list.Given as goal

-- the values so far, and then those of the others
abbrev pub invariant-loop-actor : goal.invariant-loop-actor
invariant-loop-actor l = map view l.list.items ++ map (actor_json l.system) (drop l.actor-index l.actors) ≡ map (actor_json l.system) l.actors
