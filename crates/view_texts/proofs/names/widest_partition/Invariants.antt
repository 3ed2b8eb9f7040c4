use Rattle.std.proofs.Common.{◌≡◌, drop, map}
use Rattle.view_texts.specs.Columns.{widest}
use Rattle.view_texts.proofs.names.widest_partition.Given as goal

-- the width so far, and then that of the others
abbrev pub invariant-loop-partition : goal.invariant-loop-partition
invariant-loop-partition l = widest l.width (map (λ p. p.name) (drop l.partition-index l.partitions)) ≡ widest l.least (map (λ p. p.name) l.partitions)
