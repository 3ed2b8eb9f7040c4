-- Each clause holds by computing.
use Rattle.std.proofs.Common.{refl}
use Rattle.ffm_model.specs.Step.{step}
use Rattle.law_examples.proofs.requests.written_past_the_end.Goals as goal

pub returns : goal.returns
unfolding step
returns c = record { run = refl; named = refl; not_cut_off = refl; client_is_told = refl; no_service_left = refl; nothing_left = refl }
