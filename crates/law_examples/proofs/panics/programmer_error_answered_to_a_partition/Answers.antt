-- Each clause holds by computing.
use Rattle.std.proofs.Common.{refl}
use Rattle.ffm_model.specs.Step.{step}
use Rattle.law_examples.proofs.panics.programmer_error_answered_to_a_partition.Goals as goal

pub returns : goal.returns
unfolding step
returns c = record { run = refl; named = refl; no_return = refl; no_further_call = refl; no_further_stop = refl; disconnections_count = refl; another_stays = refl }
