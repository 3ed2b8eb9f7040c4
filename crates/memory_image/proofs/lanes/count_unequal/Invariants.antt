use Rattle.std.proofs.Common.{◌≡◌, ◌≤◌, ◌+◌, length, drop, count_by, ◌-◌}
use Rattle.std.specs.List.{zip}
use Rattle.memory_image.specs.Unequal.{are_unequal}
use Rattle.memory_image.proofs.lanes.count_unequal.Given as goal

abbrev pub invariant-loop-at : goal.invariant-loop-at
invariant-loop-at l =
    (l.at ≤ length l.a)
    × (count_by are_unequal (zip l.a l.b) ≡ l.total + count_by are_unequal (drop l.at (zip l.a l.b)))

abbrev pub decreases-loop-at : goal.decreases-loop-at
decreases-loop-at l = length l.a - l.at
