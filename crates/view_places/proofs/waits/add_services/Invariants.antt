use Rattle.std.proofs.Common.{◌≡◌, ◌++◌, drop}
use Rattle.std.specs.List.{enumerate_from, filter_map}
use Rattle.view_places.specs.Waits.{service_signal_at, service_signals}
use Rattle.view_places.proofs.waits.add_services.Given as goal

-- the signals so far, and then those of the others
abbrev pub invariant-loop-place : goal.invariant-loop-place
invariant-loop-place l = l.signals.items ++ filter_map (service_signal_at l.partition l.mask) (enumerate_from l.place (drop l.place l.services)) ≡ l.initial.signals.items ++ service_signals l.services l.partition l.mask
