use Rattle.std.proofs.Common.{arith}
use Rattle.partition_sim.proofs.ScheduleLemmas.{underway-turn, schedule-turn, rounds-start, round-next, next-at, over-at}
use Rattle.partition_sim.proofs.scheduled.run_turns.Goals as goal

pub order-preserved : goal.order-preserved
order-preserved c =
    underway-turn _ _ _ _ _ _ _ _ _ _ c.in-Ok.ensures.opening (schedule-turn c.order.spm.opening.system _ _ _ c.order-test.true) c.in-Ok.ensures.turned c.in-Ok.ensures.driving c.order.invariant

pub rounds-init : goal.rounds-init
rounds-init c = rounds-start _ _ _ _ _ _ (omega arith) c.order.invariant

pub round-preserved : goal.round-preserved
round-preserved c =
    round-next _ _ _ _ _ _ _ _ _ _ _ (omega arith) c.in-Ok-take_turn.ensures.opening c.in-Ok-take_turn.ensures.turned c.in-Ok-take_turn.ensures.driving c.round.invariant

pub rounds-preserved : goal.rounds-preserved
rounds-preserved c = next-at _ _ _ _ _ _ _ _ c.if-not-made.false (omega arith) c.round.invariant

pub returns-then-not-made-clause-driven : goal.returns-then-not-made-clause-driven
returns-then-not-made-clause-driven c = over-at _ _ _ _ _ _ _ _ c.if-not-made.true (omega arith) c.round.invariant
