use Rattle.std.proofs.Common.{◌≡◌, ◌++◌, drop, filter}
use Rattle.std.specs.Prelude.{◌==◌}
use Rattle.std.specs.List.{flat_map}
use Rattle.ffm_model.specs.Listing.{service_line}
use Rattle.system_texts.proofs.lines.append_services.Given as goal

-- the lines so far, and then those of the other services
abbrev pub invariant-loop-service : goal.invariant-loop-service
invariant-loop-service l = l.text.items ++ flat_map service_line (filter (λ v. v.owner == l.owner) (drop l.service-index l.system.services)) ≡ l.initial.text.items ++ flat_map service_line (filter (λ v. v.owner == l.owner) l.system.services)
