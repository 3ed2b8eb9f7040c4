use Rattle.std.proofs.Common.{◌≡◌, ◌≤◌, take, map, count_by, not}
use Rattle.region_map.specs.Seen.{seen}
use Rattle.manifest_compile.proofs.indices.are_too_many.Given as goal

-- how many there are among the services so far
abbrev pub invariant-loop-at : goal.invariant-loop-at
invariant-loop-at l = record {
  counted : l.stateless ≡ count_by (λ x. not x.value.connection_based) (take l.at-index (map seen l.services));
  few : l.stateless ≤ l.at-index;
}
