use Rattle.std.proofs.Common.{◌≡◌, ◌++◌, map, drop}
use Rattle.std.specs.List.{flat_map, enumerate_from}
use Rattle.ffm_model.specs.Permissions.{permitted_to_partition}
use Rattle.region_map.specs.Seen.{seen}
use Rattle.manifest_compile.specs.Pairs.{pair_seen}
use Rattle.manifest_compile.proofs.pairs.add_partitions.Given as goal

-- the pairs so far, and then those of the other partitions
abbrev pub invariant-loop-k : goal.invariant-loop-k
invariant-loop-k l =
    map pair_seen l.found.items ++ flat_map (permitted_to_partition (map seen l.services)) (enumerate_from l.k (drop l.k l.manifests))
    ≡ map pair_seen l.initial.found.items ++ flat_map (permitted_to_partition (map seen l.services)) (enumerate_from 0 l.manifests)
