use Rattle.std.proofs.Common.{◌≡◌, ◌+◌, ◌*◌, ◌≤◌, drop}
use Rattle.std.specs.Prelude.{sum_by}
use Rattle.ffm_model.specs.Layout.{ram_needed}
use Rattle.region_map.proofs.ram.ram_total.Given as goal

abbrev pub invariant-loop-manifest : goal.invariant-loop-manifest
invariant-loop-manifest l = (l.total + sum_by ram_needed (drop l.manifest-index l.manifests) ≡ sum_by ram_needed l.manifests) × (l.total ≤ l.manifest-index * 8589934623)
