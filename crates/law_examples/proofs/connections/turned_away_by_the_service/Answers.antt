-- Each clause holds by computing.
use Rattle.std.proofs.Common.{refl}
use Rattle.ffm_model.specs.Step.{step}
use Rattle.law_examples.proofs.connections.turned_away_by_the_service.Goals as goal

pub returns : goal.returns
unfolding step
returns c = record { run = refl; named = refl; answer_of_the_service = refl; gone = refl; budget_free_again = refl }
