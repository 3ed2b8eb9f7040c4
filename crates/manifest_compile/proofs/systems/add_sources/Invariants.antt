use Rattle.std.proofs.Common.{◌≡◌, ◌+◌, ◌++◌, map, drop}
use Rattle.std.specs.List.{enumerate_from}
use Rattle.ffm_model.specs.Compiled.{source_of, sources_of_manifest}
use Rattle.manifest_compile.proofs.systems.add_sources.Given as goal

-- the interrupts so far, and then the others
abbrev pub invariant-loop-place : goal.invariant-loop-place
invariant-loop-place l = l.sources.items ++ map (source_of l.fn.manifest.framework l.owner) (enumerate_from (l.signals.services + l.place) (drop l.place l.item-items)) ≡ l.initial.sources.items ++ sources_of_manifest (l.owner, l.fn.manifest)
