use Rattle.std.specs.List.{All}
use Rattle.partition_sim.specs.Workers.{IsFresh}
use Rattle.test_threads.specs.declared.alone.Alone.{Alone}
use Rattle.test_threads.specs.declared.alone.Log.{Log}
use Rattle.test_threads.proofs.drives.workers.Given as goal

abbrev pub invariant-loop-driven : goal.invariant-loop-driven
invariant-loop-driven g l = All (IsFresh (λ (s : Alone) (l : Log). Unit {0}) (λ (l : Log). l.entries.items) l.api) l.workers.items
