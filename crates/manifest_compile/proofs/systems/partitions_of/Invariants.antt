use Rattle.std.proofs.Common.{◌≡◌, ◌++◌, map, drop}
use Rattle.std.specs.List.{enumerate_from}
use Rattle.ffm_model.specs.Compiled.{partition_of}
use Rattle.manifest_compile.proofs.systems.partitions_of.Given as goal

-- the partitions so far, and then the others
abbrev pub invariant-loop-k : goal.invariant-loop-k
invariant-loop-k l = l.partitions.items ++ map (partition_of l.level) (enumerate_from l.k (drop l.k l.manifests)) ≡ map (partition_of l.level) (enumerate_from 0 l.manifests)
