use Rattle.std.proofs.Common.{◌≡◌, ◌++◌, map, drop}
use Rattle.std.specs.List.{filter_map, enumerate_from}
use Rattle.ffm_model.specs.Permissions.{permitted_to_client}
use Rattle.region_map.specs.Seen.{seen}
use Rattle.manifest_compile.specs.Pairs.{pair_seen}
use Rattle.law_systems.proofs.Budgets.{permit_if}
use Rattle.manifest_compile.proofs.pairs.add_non_secure.Given as goal

-- the pairs so far, and then those of the other services
abbrev pub invariant-loop-place : goal.invariant-loop-place
invariant-loop-place l =
    map pair_seen l.found.items ++ filter_map (permit_if l.client l.client_name (λ v. v.nonsecure)) (enumerate_from l.place (map seen (drop l.place l.services)))
    ≡ map pair_seen l.initial.found.items ++ permitted_to_client (map seen l.services) (l.client, l.client_name)
