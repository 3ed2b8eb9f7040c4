use Rattle.std.proofs.Common.{◌-◌, length}
use Rattle.partition_sim.specs.Driving.{Underway}
use Rattle.partition_sim.proofs.ScheduleLemmas.{InRounds, InRound}
use Rattle.partition_sim.proofs.scheduled.run_turns.Given as goal

abbrev pub invariant-order : goal.invariant-order
invariant-order l = Underway l.scripts l.schedule l.fn.spm.opening l.spm l.runners l.actor-index

abbrev pub invariant-rounds : goal.invariant-rounds
invariant-rounds l = InRounds l.scripts l.schedule l.fn.spm.opening l.spm l.runners

abbrev pub decreases-rounds : goal.decreases-rounds
decreases-rounds l = l.spm.opening.limit - length l.spm.history

abbrev pub invariant-round : goal.invariant-round
invariant-round l = InRound l.scripts l.schedule l.fn.spm.opening l.initial.spm.history l.spm l.runners l.made l.a
