use Rattle.std.proofs.Common.{◌≡◌, ◌++◌, drop}
use Rattle.std.specs.List.{enumerate_from, filter_map}
use Rattle.view_places.specs.Waits.{source_signal_at, source_signals}
use Rattle.view_places.proofs.waits.add_sources.Given as goal

-- the signals so far, and then those of the others
abbrev pub invariant-loop-place : goal.invariant-loop-place
invariant-loop-place l = l.signals.items ++ filter_map (source_signal_at l.partition l.mask) (enumerate_from l.place (drop l.place l.sources)) ≡ l.initial.signals.items ++ source_signals l.sources l.partition l.mask
