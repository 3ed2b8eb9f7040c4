use Rattle.std.proofs.Common.{◌≡◌, ◌+◌, length, filter, drop}
use Rattle.std.specs.Prelude.{nat_lt}
use Rattle.std.specs.List.{enumerate_from}
use Rattle.ffm_model.specs.declared.constants.TheConstants.{MAX_SIGNALS}
use Rattle.ffm_model.specs.Repeats.{first}
use Rattle.manifest_compile.proofs.limits.first_with_too_many_signals.Given as goal

-- the first one of those that are left is the first of all
abbrev pub invariant-loop-k : goal.invariant-loop-k
invariant-loop-k l = first (filter (λ e. nat_lt MAX_SIGNALS (length e.1.services + length e.1.irqs)) (enumerate_from l.k (drop l.k l.manifests))) ≡ first (filter (λ e. nat_lt MAX_SIGNALS (length e.1.services + length e.1.irqs)) (enumerate_from 0 l.manifests))
