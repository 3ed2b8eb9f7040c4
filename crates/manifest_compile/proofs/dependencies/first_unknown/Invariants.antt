use Rattle.std.proofs.Common.{◌≡◌, not, map, filter, drop}
use Rattle.ffm_model.specs.Repeats.{first}
use Rattle.ffm_model.specs.Rules.{dependencies_in, is_known}
use Rattle.region_map.specs.Seen.{seen}
use Rattle.manifest_compile.proofs.dependencies.first_unknown.Given as goal

-- the first one of those that are left is the first of all
abbrev pub invariant-loop-at : goal.invariant-loop-at
invariant-loop-at l = first (filter (λ d. not (is_known l.parts d.value)) (map seen (drop l.at-index l.at-items))) ≡ first (filter (λ d. not (is_known l.parts d.value)) (dependencies_in l.parts))
