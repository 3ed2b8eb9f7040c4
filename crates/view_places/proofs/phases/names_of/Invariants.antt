use Rattle.std.proofs.Common.{◌≡◌, ◌++◌, drop, map}
use Rattle.view_places.specs.StateText.{signal_name}
use Rattle.view_places.proofs.phases.names_of.Given as goal

-- the names so far, and then the others
abbrev pub invariant-loop-signal : goal.invariant-loop-signal
invariant-loop-signal l = map (λ n. n.now) l.names.items ++ map (signal_name l.system) (drop l.signal-index l.signals) ≡ map (signal_name l.system) l.signals
