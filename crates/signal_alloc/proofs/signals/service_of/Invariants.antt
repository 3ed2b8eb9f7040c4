use Rattle.std.proofs.Common.{ℕ, ◌<◌, ◌≢◌}
use Rattle.ffm_model.specs.Compiled.{signal_at}
use Rattle.signal_alloc.proofs.signals.service_of.Given as goal

abbrev pub invariant-loop-place : goal.invariant-loop-place
invariant-loop-place l = (k : ℕ) → k < l.place → l.signal ≢ signal_at k
