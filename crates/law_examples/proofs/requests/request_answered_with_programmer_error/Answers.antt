-- Each clause holds by computing.
use Rattle.std.proofs.Common.{refl}
use Rattle.ffm_model.specs.Step.{step}
use Rattle.law_examples.proofs.requests.request_answered_with_programmer_error.Goals as goal

pub returns : goal.returns
unfolding step
returns c = record { run = refl; named = refl; no_further_request = refl; may_be_closed = refl }
