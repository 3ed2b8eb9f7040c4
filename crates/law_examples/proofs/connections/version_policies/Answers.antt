-- Each clause holds by computing.
use Rattle.std.proofs.Common.{refl}
use Rattle.ffm_model.specs.Step.{step}
use Rattle.law_examples.proofs.connections.version_policies.Goals as goal

pub returns : goal.returns
unfolding step
returns c = record { run = refl; named = refl; strict_is_equal = refl; relaxed_is_not_at_least = refl; relaxed_is_at_most = refl }
