-- Each clause holds by computing.
use Rattle.std.proofs.Common.{refl}
use Rattle.ffm_model.specs.Step.{step}
use Rattle.law_examples.proofs.requests.vectors_of_a_request.Goals as goal

pub returns : goal.returns
unfolding step
returns c = record { five_vectors = refl; five_vectors_refused = refl; four_inputs = refl; four_outputs = refl; empty_vector = refl; last_bytes = refl; past_the_end = refl; past_the_last_address = refl; no_descriptor_room = refl }
