-- Each clause holds by computing.
use Rattle.std.proofs.Common.{refl}
use Rattle.ffm_model.specs.Step.{step}
use Rattle.law_examples.proofs.panics.clients_of_a_panicked_service.Goals as goal

pub returns : goal.returns
unfolding step
returns c = record { run = refl; named = refl; opening_is_refused = refl; open_is_lost = refl; lost_one_stays = refl; none_left = refl; closing_run = refl; closing_named = refl; closing_is_gone = refl }
