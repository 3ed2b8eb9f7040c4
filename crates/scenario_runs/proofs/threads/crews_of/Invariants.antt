use Rattle.std.proofs.Common.{◌≡◌, ◌≤◌, ◌+◌, ◌++◌, List, length, vec_capacity}
use Rattle.std.specs.List.{AllByRecursion}
use Rattle.scenario_runs.specs.declared.threads.Start.{Start}
use Rattle.scenario_runs.specs.Threads.{AreUnused, CrewedBy, IsStart}
use Rattle.scenario_runs.proofs.threads.crews_of.Given as goal

-- the starts so far, and what is kept of them
abbrev pub invariant-loop-pass : goal.invariant-loop-pass
invariant-loop-pass l =
    (xs : List Start) × CrewedBy l.shared l.yielded xs l.crews.items × (xs ++ l.left.rest.items ≡ l.fn.starts) × (l.yielded ++ l.pass-iterator.rest.items ≡ l.fn.passes)
    × AreUnused l.shared l.pass-iterator.rest.items × AllByRecursion IsStart l.left.rest.items × (length l.crews.items + length l.pass-iterator.rest.items ≤ vec_capacity l.crews)
