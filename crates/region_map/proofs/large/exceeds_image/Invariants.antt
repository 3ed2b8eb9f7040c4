use Rattle.std.proofs.Common.{◌≡◌, ◌+◌, ◌≤◌, drop}
use Rattle.std.specs.Prelude.{sum_by}
use Rattle.region_map.proofs.large.exceeds_image.Given as goal

abbrev pub invariant-loop-at : goal.invariant-loop-at
invariant-loop-at l = (l.total + sum_by (λ x. x.region.size) (drop l.at-index l.placed) ≡ l.start + sum_by (λ x. x.region.size) l.placed) × (l.total ≤ 4398046526976)
