-- Each clause holds by computing.
use Rattle.std.proofs.Common.{refl}
use Rattle.ffm_model.specs.Step.{step}
use Rattle.law_examples.proofs.connections.budget_of_two_connections.Goals as goal

pub returns : goal.returns
unfolding step
returns c = record { run = refl; named = refl; not_busy_below_the_budget = refl; busy_at_the_budget = refl; not_busy_after_the_close = refl; two_left = refl }
