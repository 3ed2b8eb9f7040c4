use Rattle.std.proofs.Common.{ℕ, ◌≡◌, ◌<◌, false}
use Rattle.spm_core.specs.Manager.{state_of}
use Rattle.scenario_runs.proofs.Panics.{panicked_in}
use Rattle.scenario_runs.proofs.opening.is_some_panicked.Given as goal

-- none so far is panicked
abbrev pub invariant-loop-partition : goal.invariant-loop-partition
invariant-loop-partition l = (p : ℕ) → p < l.partition → panicked_in (state_of l.ended) p ≡ false
