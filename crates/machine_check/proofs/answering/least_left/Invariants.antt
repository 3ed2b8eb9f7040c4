use Rattle.std.proofs.Common.{ℕ, ◌≡◌, ◌<◌, true, pos}
use Rattle.std.specs.BTreeSet.{contains}
use Rattle.std.specs.Ordering.{int_cmp}
use Rattle.machine_check.proofs.answering.least_left.Given as goal

abbrev pub invariant-loop-number : goal.invariant-loop-number
invariant-loop-number l = (k : ℕ) → 0 < k → k < l.number → contains int_cmp l.given (pos k) ≡ true
