use Rattle.std.proofs.Common.{◌≡◌, ◌++◌, drop, map}
use Rattle.std.specs.List.{filter_map}
use Rattle.view_aspects.specs.Diagrams.{actor_named}
use Rattle.view_aspects.proofs.choosing.actors_of.Given as goal

-- the actors so far, and then those of the other names
abbrev pub invariant-loop-name : goal.invariant-loop-name
invariant-loop-name l = l.actors.items ++ filter_map (actor_named l.system) (map (λ n. n.now) (drop l.name-index l.names)) ≡ filter_map (actor_named l.system) (map (λ n. n.now) l.names)
