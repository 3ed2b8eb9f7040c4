use Rattle.std.proofs.Common.{◌≡◌, ℕ, take, drop, map, not, ◌&&◌}
use Rattle.std.specs.Prelude.{◌==◌}
use Rattle.std.specs.Ordering.{nat_cmp}
use Rattle.std.specs.List.{list_any}
use Rattle.std.specs.BTreeSet as tree
use Rattle.ffm_model.specs.Repeats.{first, repeated, repeated_after}
use Rattle.region_map.specs.Seen.{seen}
use Rattle.manifest_compile.proofs.indices.repeated_index.Given as goal

-- the first one after those so far is the first of all, and the set has the indices so far
abbrev pub invariant-loop-at : goal.invariant-loop-at
invariant-loop-at l = (first (repeated_after (λ x y. not (y.value.stateless_handle == 0) && (x.value.stateless_handle == y.value.stateless_handle)) (take l.at-index (map seen l.services)) (drop l.at-index (map seen l.services))) ≡ first (repeated (λ x y. not (y.value.stateless_handle == 0) && (x.value.stateless_handle == y.value.stateless_handle)) (map seen l.services)))
    × ((q : ℕ) → tree.contains nat_cmp l.indices q ≡ list_any (λ y. y.value.stateless_handle == q) (take l.at-index (map seen l.services)))
