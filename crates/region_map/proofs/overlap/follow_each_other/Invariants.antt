use Rattle.std.proofs.Common.{◌≡◌, ◌++◌, map, take, drop}
use Rattle.ffm_model.specs.Layout.{overlapping}
use Rattle.ffm_model.specs.Repeats.{first}
use Rattle.region_map.specs.Placements.{located_of}
use Rattle.region_map.proofs.OverlapSteps.{EndBy, front, regions_in}
use Rattle.region_map.proofs.overlap.follow_each_other.Given as goal

abbrev pub invariant-loop-at : goal.invariant-loop-at
invariant-loop-at l =
    (first (overlapping (front l.parts ++ regions_in (take l.at-index l.placed)) (map located_of (drop l.at-index l.placed))) ≡ first (overlapping (front l.parts) (map located_of l.placed)))
    × EndBy l.end (regions_in (take l.at-index l.placed))
