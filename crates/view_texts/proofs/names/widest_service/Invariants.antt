use Rattle.std.proofs.Common.{◌≡◌, drop, map}
use Rattle.view_texts.specs.Columns.{widest}
use Rattle.view_texts.proofs.names.widest_service.Given as goal

-- the width so far, and then that of the others
abbrev pub invariant-loop-service : goal.invariant-loop-service
invariant-loop-service l = widest l.width (map (λ v. v.name) (drop l.service-index l.services)) ≡ widest l.least (map (λ v. v.name) l.services)
