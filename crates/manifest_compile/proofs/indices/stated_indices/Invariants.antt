use Rattle.std.proofs.Common.{◌≡◌, ◌++◌, map, drop}
use Rattle.region_map.specs.Seen.{seen}
use Rattle.manifest_compile.proofs.indices.stated_indices.Given as goal

-- the indices so far, and then those of the others
abbrev pub invariant-loop-at : goal.invariant-loop-at
invariant-loop-at l = l.indices.items ++ map (λ x. x.value.stateless_handle) (map seen (drop l.at-index l.services)) ≡ map (λ x. x.value.stateless_handle) (map seen l.services)
