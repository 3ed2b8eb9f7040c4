use Rattle.partition_sim.proofs.ContextLaws.{one-plan, one-run}
use Rattle.partition_sim.proofs.laws.one_context_is_a_script.Goals as goal

pub returns : goal.returns
returns c = record { call = one-plan; run = one-run }
