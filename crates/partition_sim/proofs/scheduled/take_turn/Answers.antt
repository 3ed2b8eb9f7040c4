use Rattle.partition_sim.proofs.TurnLemmas.{passed-off}
use Rattle.partition_sim.proofs.scheduled.take_turn.Goals as goal

pub returns-then-not-enabled-clause-turned : goal.returns-then-not-enabled-clause-turned
returns-then-not-enabled-clause-turned c = passed-off _ _ _ _ c.enabled.ensures c.if-not-enabled.true
