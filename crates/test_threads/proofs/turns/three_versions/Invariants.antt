use Rattle.test_threads.specs.Threes.{IsPassOf}
use Rattle.test_threads.proofs.turns.three_versions.Given as goal

abbrev pub invariant-loop : goal.invariant-loop
invariant-loop g l = IsPassOf l.shared l.fn.pass.actor l.pass
