use Rattle.std.proofs.Common.{◌≡◌, ◌++◌}
use Rattle.test_threads.specs.Workers.{passes_in}
use Rattle.test_threads.proofs.driven.passes_of.Given as goal

abbrev pub invariant-loop-worker : goal.invariant-loop-worker
invariant-loop-worker l = l.passes.items ++ passes_in l.worker-iterator.rest.items ≡ passes_in l.fn.workers
