use Rattle.std.proofs.Common.{◌≡◌, ℕ, List, take, drop, Bor, map}
use Rattle.std.specs.Ordering.{nat_cmp}
use Rattle.std.specs.Cmp.Lexicographic.{slice_cmp}
use Rattle.std.specs.List.{list_any}
use Rattle.std.specs.Str.{bytes_eq}
use Rattle.std.specs.BTreeSet as tree
use Rattle.ffm_model.specs.Repeats.{first, repeated, repeated_after}
use Rattle.manifest_compile.specs.Names.{title_seen}
use Rattle.manifest_compile.proofs.names.repeated_title.Given as goal

-- the first one after those so far is the first of all, and the set has the names so far
abbrev pub invariant-loop-title : goal.invariant-loop-title
invariant-loop-title l = (first (repeated_after (λ x y. bytes_eq x.name y.name) (take l.title-index (map title_seen l.titles)) (drop l.title-index (map title_seen l.titles))) ≡ first (repeated (λ x y. bytes_eq x.name y.name) (map title_seen l.titles)))
    × ((q : Bor (List ℕ)) → tree.contains (λ x y. slice_cmp nat_cmp x.now y.now) l.names q ≡ list_any (λ y. bytes_eq y.name q.now) (take l.title-index (map title_seen l.titles)))
