use Rattle.std.proofs.Common.{◌≡◌}
use Rattle.ffm_model.specs.Compiled.{free_index}
use Rattle.manifest_compile.proofs.IndexLemmas.{free_from}
use Rattle.manifest_compile.proofs.indices.free_index.Given as goal

-- the least one from here on is the least of all
abbrev pub invariant-loop-index : goal.invariant-loop-index
invariant-loop-index l = free_from l.taken l.index ≡ free_index l.taken
