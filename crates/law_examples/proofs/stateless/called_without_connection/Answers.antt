-- Each clause holds by computing.
use Rattle.std.proofs.Common.{refl}
use Rattle.ffm_model.specs.Step.{step}
use Rattle.law_examples.proofs.stateless.called_without_connection.Goals as goal

pub returns : goal.returns
unfolding step
returns c = record { run = refl; named = refl; one_message = refl; no_such_index = refl }
