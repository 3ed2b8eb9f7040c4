use Rattle.std.proofs.Common.{◌≡◌, ◌++◌, map, take, drop}
use Rattle.ffm_model.specs.Layout.{overlapping}
use Rattle.ffm_model.specs.Repeats.{first}
use Rattle.region_map.specs.Placements.{located_of}
use Rattle.region_map.proofs.Earlier.{Holds}
use Rattle.region_map.proofs.OverlapSteps.{front, regions_in}
use Rattle.region_map.proofs.overlap.first_overlap.Given as goal

abbrev pub invariant-loop-at : goal.invariant-loop-at
invariant-loop-at l =
    (first (overlapping (front l.parts ++ regions_in (take l.at-index l.placed)) (map located_of (drop l.at-index l.placed))) ≡ first (overlapping (front l.parts) (map located_of l.placed)))
    × Holds l.earlier (regions_in (take l.at-index l.placed))
