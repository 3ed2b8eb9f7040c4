use Rattle.std.proofs.Common.{◌≡◌, ◌++◌, map, drop}
use Rattle.region_map.specs.Placements.{located_of}
use Rattle.region_map.proofs.layout.add_placed.Given as goal

abbrev pub invariant-loop-at : goal.invariant-loop-at
invariant-loop-at l = l.regions.items ++ map (λ x. x.value) (map located_of (drop l.at-index l.placed)) ≡ l.initial.regions.items ++ map (λ x. x.value) (map located_of l.placed)
