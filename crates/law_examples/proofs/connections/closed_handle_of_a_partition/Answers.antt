-- Each clause holds by computing.
use Rattle.std.proofs.Common.{refl}
use Rattle.ffm_model.specs.Step.{step}
use Rattle.law_examples.proofs.connections.closed_handle_of_a_partition.Goals as goal

pub returns : goal.returns
unfolding step
returns c = record { run = refl; named = refl; not_accepted = refl; not_answered = refl }
