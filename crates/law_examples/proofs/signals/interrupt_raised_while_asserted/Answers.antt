-- Each clause holds by computing.
use Rattle.std.proofs.Common.{refl}
use Rattle.ffm_model.specs.Step.{step}
use Rattle.law_examples.proofs.signals.interrupt_raised_while_asserted.Goals as goal

pub returns : goal.returns
unfolding step
returns c = record { run = refl; named = refl; not_lost = refl; ended_by_the_second = refl }
