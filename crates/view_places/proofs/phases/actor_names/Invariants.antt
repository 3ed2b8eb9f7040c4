use Rattle.std.proofs.Common.{◌≡◌, ◌++◌, drop, map}
use Rattle.view_texts.specs.Names.{actor_name}
use Rattle.view_places.proofs.phases.actor_names.Given as goal

-- the names so far, and then the others
abbrev pub invariant-loop-actor : goal.invariant-loop-actor
invariant-loop-actor l = map (λ n. n.now) l.names.items ++ map (actor_name l.system) (drop l.actor-index l.actors) ≡ map (actor_name l.system) l.actors
