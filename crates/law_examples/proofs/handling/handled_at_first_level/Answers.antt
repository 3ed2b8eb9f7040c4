-- Each clause holds by computing.
use Rattle.std.proofs.Common.{refl}
use Rattle.ffm_model.specs.Step.{step}
use Rattle.law_examples.proofs.handling.handled_at_first_level.Goals as goal

pub returns : goal.returns
unfolding step
returns c = record { run = refl; no_eoi = refl; no_raise = refl; twice = refl }
