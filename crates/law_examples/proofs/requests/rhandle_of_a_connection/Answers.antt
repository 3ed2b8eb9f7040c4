-- Each clause holds by computing.
use Rattle.std.proofs.Common.{refl}
use Rattle.ffm_model.specs.Step.{step}
use Rattle.law_examples.proofs.requests.rhandle_of_a_connection.Goals as goal

pub returns : goal.returns
unfolding step
returns c = record { run = refl; named = refl; kept_for_the_request = refl; kept_for_the_disconnection = refl }
