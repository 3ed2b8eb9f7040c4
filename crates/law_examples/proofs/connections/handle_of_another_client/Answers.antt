-- Each clause holds by computing.
use Rattle.std.proofs.Common.{refl}
use Rattle.ffm_model.specs.Step.{step}
use Rattle.law_examples.proofs.connections.handle_of_another_client.Goals as goal

pub returns : goal.returns
unfolding step
returns c = record { run = refl; named = refl; no_call_on_it = refl; no_close_of_it = refl; its_own_may_call = refl }
