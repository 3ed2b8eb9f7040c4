use Rattle.std.proofs.Common.{◌≡◌, ◌≤◌, ◌+◌, length, drop, ◌-◌}
use Rattle.std.specs.List.{zip, position_or_len}
use Rattle.memory_image.specs.Unequal.{are_unequal}
use Rattle.memory_image.proofs.lanes.equal_blocks.Given as goal

abbrev pub invariant-loop-at : goal.invariant-loop-at
invariant-loop-at l =
    (l.at ≤ length l.a)
    × (position_or_len are_unequal (zip l.a l.b) ≡ l.at + position_or_len are_unequal (drop l.at (zip l.a l.b)))

abbrev pub decreases-loop-at : goal.decreases-loop-at
decreases-loop-at l = length l.a - l.at
