-- Each clause holds by computing.
use Rattle.std.proofs.Common.{refl}
use Rattle.ffm_model.specs.Step.{step}
use Rattle.law_examples.proofs.requests.reach_of_a_partition.Goals as goal

pub returns : goal.returns
unfolding step
returns c = record { own_memory = refl; nothing_above_it = refl; not_before_the_get = refl; first_input_byte = refl; last_input_byte = refl; behind_the_input = refl; input_not_written = refl; last_output_byte = refl; behind_the_output = refl; output_not_read = refl; length_word = refl; base_word_not_written = refl; not_after_the_reply = refl; not_after_its_panic = refl }
