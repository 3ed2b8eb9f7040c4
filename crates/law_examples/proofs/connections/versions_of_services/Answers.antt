-- Each clause holds by computing.
use Rattle.std.proofs.Common.{refl}
use Rattle.ffm_model.specs.Step.{step}
use Rattle.law_examples.proofs.connections.versions_of_services.Goals as goal

pub returns : goal.returns
unfolding step
returns c = record { run = refl; named = refl; own_is_told = refl; admin_is_not_told = refl }
