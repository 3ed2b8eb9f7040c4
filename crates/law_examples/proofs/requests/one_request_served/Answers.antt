-- Each clause holds by computing.
use Rattle.std.proofs.Common.{refl}
use Rattle.ffm_model.specs.Step.{step}
use Rattle.law_examples.proofs.requests.one_request_served.Goals as goal

pub returns : goal.returns
unfolding step
returns c = record { run = refl; named = refl; answered_by_its_handle = refl; no_byte_past_the_input = refl; length_written = refl; fresh_handle_lawful = refl; given_handle_refused = refl; fresh_handle_no_name = refl }
