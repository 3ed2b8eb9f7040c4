use Rattle.std.proofs.Common.{◌≡◌, ◌++◌, ◌-◌, false, filter, get_or}
use Rattle.std.specs.List.{range_with_len}
use Rattle.view_places.proofs.state.rung.Given as goal

-- the partitions so far, and then those among the others
abbrev pub invariant-loop-partition : goal.invariant-loop-partition
invariant-loop-partition l =
    l.partitions.items ++ filter (λ p. get_or l.doorbells p false) (range_with_len l.partition (l.partition-end - l.partition))
    ≡ filter (λ p. get_or l.doorbells p false) (range_with_len 0 l.partition-end)
