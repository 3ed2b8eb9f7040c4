-- Each clause holds by computing.
use Rattle.std.proofs.Common.{refl}
use Rattle.ffm_model.specs.Step.{step}
use Rattle.law_examples.proofs.judgements.runs_without_end.Goals as goal

pub returns : goal.returns
unfolding step
returns c = record { nothing_done = refl; halfway = refl; at_the_limit = refl; ended_at_the_limit = refl }
