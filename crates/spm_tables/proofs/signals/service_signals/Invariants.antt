use Rattle.std.proofs.Common.{◌≡◌, map, take}
use Rattle.spm_tables.specs.TablesView.{service_signal}
use Rattle.spm_tables.proofs.signals.service_signals.Given as goal

abbrev pub invariant-loop-service : goal.invariant-loop-service
invariant-loop-service l = l.signals.items ≡ map service_signal (take l.service-index l.services)
