use Rattle.std.proofs.Common.{◌≡◌, map, drop}
use Rattle.std.specs.Prelude.{find}
use Rattle.region_map.specs.Placements.{located_of}
use Rattle.region_map.specs.Sizes.{is_large_region}
use Rattle.region_map.proofs.large.first_large_item.Given as goal

abbrev pub invariant-loop-at : goal.invariant-loop-at
invariant-loop-at l = find is_large_region (map located_of (drop l.at-index l.placed)) ≡ find is_large_region (map located_of l.placed)
