use Rattle.std.proofs.Common.{◌≡◌, ◌++◌, drop}
use Rattle.std.specs.List.{flat_map, enumerate_from}
use Rattle.ffm_model.specs.Compiled.{sources_of_manifest}
use Rattle.manifest_compile.proofs.systems.sources_of.Given as goal

-- the sources so far, and then those of the other partitions
abbrev pub invariant-loop-k : goal.invariant-loop-k
invariant-loop-k l = l.sources.items ++ flat_map sources_of_manifest (enumerate_from l.k (drop l.k l.manifests)) ≡ flat_map sources_of_manifest (enumerate_from 0 l.manifests)
