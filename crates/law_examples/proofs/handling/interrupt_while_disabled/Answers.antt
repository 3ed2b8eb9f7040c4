-- Each clause holds by computing.
use Rattle.std.proofs.Common.{refl}
use Rattle.ffm_model.specs.Step.{step}
use Rattle.law_examples.proofs.handling.interrupt_while_disabled.Goals as goal

pub returns : goal.returns
unfolding step
returns c = record { run = refl; named = refl; not_yet = refl }
