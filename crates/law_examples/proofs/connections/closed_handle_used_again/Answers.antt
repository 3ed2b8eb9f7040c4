-- Each clause holds by computing.
use Rattle.std.proofs.Common.{refl}
use Rattle.ffm_model.specs.Step.{step}
use Rattle.law_examples.proofs.connections.closed_handle_used_again.Goals as goal

pub returns : goal.returns
unfolding step
returns c = record { run = refl; named = refl; not_accepted = refl; not_another_answer = refl; open_one_stays = refl }
