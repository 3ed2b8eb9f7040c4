use Rattle.std.proofs.Common.{◌≡◌, ◌++◌}
use Rattle.std.specs.List.{All}
use Rattle.test_threads.specs.Workers.{IsUnstarted, passes_in}
use Rattle.test_threads.proofs.driven.workers_of.Given as goal

abbrev pub invariant-loop-pass : goal.invariant-loop-pass
invariant-loop-pass g l = record {
  passes : passes_in l.workers.items ++ l.pass-iterator.rest.items ≡ l.fn.passes;
  unstarted : All IsUnstarted l.workers.items;
}
