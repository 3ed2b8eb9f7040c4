use Rattle.std.proofs.Common.{◌≡◌, ◌++◌, ◌-◌, filter, map, option_map}
use Rattle.std.specs.List.{range_with_len}
use Rattle.view_diagram.specs.Diagrams.{has_lane}
use Rattle.view_diagram.proofs.lanes.Lanes.of.Given as goal

-- the lanes so far, and then those of the other actors
abbrev pub invariant-loop-actor : goal.invariant-loop-actor
invariant-loop-actor l =
    map (λ a. a.0) l.actors.items ++ filter (has_lane (option_map (λ actors. actors.now) l.chosen) l.arrows) (range_with_len l.actor (l.actor-end - l.actor))
    ≡ filter (has_lane (option_map (λ actors. actors.now) l.chosen) l.arrows) (range_with_len 0 l.actor-end)
