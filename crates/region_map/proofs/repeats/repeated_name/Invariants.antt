use Rattle.std.proofs.Common.{◌≡◌, ℕ, List, take, drop, Bor}
use Rattle.std.specs.Prelude.{map}
use Rattle.std.specs.Ordering.{nat_cmp}
use Rattle.std.specs.Cmp.Lexicographic.{slice_cmp}
use Rattle.std.specs.List.{list_any}
use Rattle.std.specs.Str.{bytes_eq}
use Rattle.std.specs.BTreeSet as tree
use Rattle.region_map.specs.Seen.{seen, same_name}
use Rattle.ffm_model.specs.Repeats.{first, repeated, repeated_after}
use Rattle.region_map.proofs.repeats.repeated_name.Given as goal

abbrev pub invariant-loop-at : goal.invariant-loop-at
invariant-loop-at g l = (first (repeated_after (same_name g.T.Named.name_of) (take l.at-index (map seen l.items)) (drop l.at-index (map seen l.items))) ≡ first (repeated (same_name g.T.Named.name_of) (map seen l.items)))
    × ((q : Bor (List ℕ)) → tree.contains (λ x y. slice_cmp nat_cmp x.now y.now) l.names q ≡ list_any (λ y. bytes_eq (g.T.Named.name_of y.value) q.now) (take l.at-index (map seen l.items)))
