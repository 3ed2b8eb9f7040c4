use Rattle.std.proofs.Common.{◌≡◌, ◌≤◌, length, vec_capacity}
use Rattle.scenario_runs.proofs.threads.flags_of.Given as goal

abbrev pub invariant-loop : goal.invariant-loop
invariant-loop l = (length l.flags.items ≡ l.counter) × (l.count ≤ vec_capacity l.flags)
