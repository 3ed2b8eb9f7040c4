use Rattle.std.proofs.Common.{◌≡◌, ◌&&◌, ◌||◌, ℕ, map, take}
use Rattle.std.specs.Prelude.{◌==◌}
use Rattle.std.specs.List.{list_any}
use Rattle.region_map.specs.Seen.{seen}
use Rattle.manifest_compile.specs.Owners.{is_owner, is_marked}
use Rattle.manifest_compile.proofs.dependencies.mark_dependencies.Given as goal

-- the dependencies so far are marked
abbrev pub invariant-loop-at : goal.invariant-loop-at
invariant-loop-at l = (k j : ℕ) → is_marked l.marks k j ≡ (is_marked l.initial.marks k j || list_any (λ d. (d.manifest == k) && is_owner l.owners j d.value) (take l.at-index (map seen l.dependencies)))
