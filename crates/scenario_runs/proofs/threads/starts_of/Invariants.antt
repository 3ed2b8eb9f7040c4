use Rattle.std.proofs.Common.{◌≡◌, ◌++◌, List, length}
use Rattle.scenario_runs.specs.Threads.{StartsFrom}
use Rattle.actor_programs.specs.Programs.{Parts}
use Rattle.scenario_runs.proofs.threads.starts_of.Given as goal

-- the scripts so far, and what is kept of them
abbrev pub invariant-loop-a : goal.invariant-loop-a
invariant-loop-a l = (xs : List Parts) × StartsFrom l.system 0 xs l.starts.items × (xs ++ l.left.rest.items ≡ l.fn.scripts) × (length xs ≡ l.a)
