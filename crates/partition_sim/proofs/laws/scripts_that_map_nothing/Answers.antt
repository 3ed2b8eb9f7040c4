use Rattle.partition_sim.proofs.HeldLaws.{unmapped-plan, unmapped-run}
use Rattle.partition_sim.proofs.laws.scripts_that_map_nothing.Goals as goal

pub returns : goal.returns
returns c = record { call = unmapped-plan; run = unmapped-run }
