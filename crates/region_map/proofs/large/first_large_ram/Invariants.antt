use Rattle.std.proofs.Common.{◌≡◌, drop}
use Rattle.std.specs.List.{position_from}
use Rattle.region_map.specs.Sizes.{has_large_ram}
use Rattle.region_map.proofs.large.first_large_ram.Given as goal

abbrev pub invariant-loop-place : goal.invariant-loop-place
invariant-loop-place l = position_from has_large_ram l.place (drop l.place l.manifests) ≡ position_from has_large_ram 0 l.manifests
