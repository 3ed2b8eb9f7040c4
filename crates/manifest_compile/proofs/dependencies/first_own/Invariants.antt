use Rattle.std.proofs.Common.{◌≡◌, map, filter, drop}
use Rattle.ffm_model.specs.Repeats.{first}
use Rattle.ffm_model.specs.Rules.{dependencies_in, has_service}
use Rattle.region_map.specs.Seen.{seen}
use Rattle.manifest_compile.proofs.dependencies.first_own.Given as goal

-- the first one of those that are left is the first of all
abbrev pub invariant-loop-at : goal.invariant-loop-at
invariant-loop-at l = first (filter (λ d. has_service l.parts d.manifest d.value) (map seen (drop l.at-index l.at-items))) ≡ first (filter (λ d. has_service l.parts d.manifest d.value) (dependencies_in l.parts))
