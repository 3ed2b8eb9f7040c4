-- Each clause holds by computing.
use Rattle.std.proofs.Common.{refl}
use Rattle.ffm_model.specs.Step.{step}
use Rattle.law_examples.proofs.signals.doorbell_rung_twice.Goals as goal

pub returns : goal.returns
unfolding step
returns c = record { run = refl; named = refl; no_count = refl; not_cleared_again = refl }
