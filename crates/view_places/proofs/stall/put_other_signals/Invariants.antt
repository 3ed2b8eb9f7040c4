use Rattle.std.proofs.Common.{◌≡◌, ◌++◌, drop}
use Rattle.std.specs.List.{flat_map}
use Rattle.machine_calls.specs.Machine.{spm_of_objects}
use Rattle.view_places.specs.StateText.{other_signal}
use Rattle.view_places.proofs.stall.put_other_signals.Given as goal

-- the signals so far, and then the others
abbrev pub invariant-loop-signal : goal.invariant-loop-signal
invariant-loop-signal l =
    l.text.items ++ flat_map (other_signal l.system (spm_of_objects l.objects) l.partition) (drop l.signal-index l.signals)
    ≡ l.initial.text.items ++ flat_map (other_signal l.system (spm_of_objects l.objects) l.partition) l.signals
