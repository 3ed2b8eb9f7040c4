-- Each clause holds by computing.
use Rattle.std.proofs.Common.{refl}
use Rattle.ffm_model.specs.Step.{step}
use Rattle.law_examples.proofs.requests.bytes_moved_in_order.Goals as goal

pub returns : goal.returns
unfolding step
returns c = record { run = refl; named = refl; read_on = refl; rest_is_one_byte = refl; written_on = refl }
