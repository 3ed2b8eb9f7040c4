use Rattle.std.proofs.Common.{◌≡◌, ℕ, take, drop, map}
use Rattle.std.specs.Prelude.{◌==◌}
use Rattle.std.specs.Ordering.{nat_cmp}
use Rattle.std.specs.List.{list_any}
use Rattle.std.specs.BTreeSet as tree
use Rattle.ffm_model.specs.Repeats.{first, repeated, repeated_after}
use Rattle.region_map.specs.Seen.{seen}
use Rattle.manifest_compile.proofs.names.repeated_sid.Given as goal

-- the first one after those so far is the first of all, and the set has the SIDs so far
abbrev pub invariant-loop-at : goal.invariant-loop-at
invariant-loop-at l = (first (repeated_after (λ x y. x.value.sid.0 == y.value.sid.0) (take l.at-index (map seen l.services)) (drop l.at-index (map seen l.services))) ≡ first (repeated (λ x y. x.value.sid.0 == y.value.sid.0) (map seen l.services)))
    × ((q : ℕ) → tree.contains nat_cmp l.sids q ≡ list_any (λ y. y.value.sid.0 == q) (take l.at-index (map seen l.services)))
