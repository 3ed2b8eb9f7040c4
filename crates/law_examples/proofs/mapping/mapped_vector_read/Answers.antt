-- Each clause holds by computing.
use Rattle.std.proofs.Common.{refl}
use Rattle.ffm_model.specs.Held.{changed_at, without}
use Rattle.ffm_model.specs.HeldPlans.{held_step, held_steps, held_arrived, held_call, held_after}
use Rattle.ffm_model.specs.Plans.{engine_after, plan_of}
use Rattle.ffm_model.specs.Records.{ends_blocked}
use Rattle.ffm_model.specs.Step.{step}
use Rattle.law_examples.proofs.mapping.mapped_vector_read.Goals as goal

pub returns : goal.returns
unfolding step changed_at without held_step held_steps held_arrived held_call held_after engine_after plan_of ends_blocked
returns c = record { run = refl; named = refl; planned = (refl, (refl, (refl, (refl, (refl, tt))))) }
