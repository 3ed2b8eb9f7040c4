-- Each clause holds by computing.
use Rattle.std.proofs.Common.{refl}
use Rattle.ffm_model.specs.Step.{step}
use Rattle.law_examples.proofs.requests.descriptor_changed_after_the_call.Goals as goal

pub returns : goal.returns
unfolding step
returns c = record { run = refl; named = refl; read_once = refl; no_byte_elsewhere = refl }
