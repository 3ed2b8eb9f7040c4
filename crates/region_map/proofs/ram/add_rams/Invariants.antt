use Rattle.std.proofs.Common.{◌≡◌, ◌+◌, ◌++◌, drop}
use Rattle.std.specs.Prelude.{sum_by}
use Rattle.ffm_model.specs.declared.constants.TheConstants.{RAM_BASE}
use Rattle.ffm_model.specs.Layout.{ram_needed, rams_from}
use Rattle.region_map.proofs.ram.add_rams.Given as goal

abbrev pub invariant-loop-place : goal.invariant-loop-place
invariant-loop-place l =
    (l.regions.items ++ rams_from l.level l.place l.base (drop l.place l.manifests) ≡ l.initial.regions.items ++ rams_from l.level 0 RAM_BASE l.manifests)
    × (l.base + sum_by ram_needed (drop l.place l.manifests) ≡ RAM_BASE + sum_by ram_needed l.manifests)
