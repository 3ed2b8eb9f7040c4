use Rattle.std.proofs.Common.{◌≡◌, ◌++◌, map, drop}
use Rattle.std.specs.List.{filter_map}
use Rattle.ffm_model.specs.Layout.{mmio_placed}
use Rattle.region_map.specs.Seen.{seen}
use Rattle.region_map.specs.Placements.{located_of, unknown_in}
use Rattle.region_map.proofs.placed.place_all.Given as goal

abbrev pub invariant-loop-at : goal.invariant-loop-at
invariant-loop-at l =
    (map located_of l.found.items ++ filter_map (mmio_placed l.directory.regions.now) (map seen (drop l.at-index l.items)) ≡ filter_map (mmio_placed l.directory.regions.now) (map seen l.items))
    × (unknown_in l.directory.regions.now (map seen (drop l.at-index l.items)) ≡ unknown_in l.directory.regions.now (map seen l.items))
