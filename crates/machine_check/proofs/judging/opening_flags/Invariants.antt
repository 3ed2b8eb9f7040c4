use Rattle.std.proofs.Common.{◌≡◌, false, map, take}
use Rattle.machine_check.proofs.judging.opening_flags.Given as goal

abbrev pub invariant-loop-source : goal.invariant-loop-source
invariant-loop-source l = l.flags.items ≡ map (λ x. record { enabled = x.enabled; pending = false; asserted = false }) (take l.source-index l.sources)
