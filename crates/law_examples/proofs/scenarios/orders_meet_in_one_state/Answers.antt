-- Each clause holds by computing.
use Rattle.std.proofs.Common.{refl}
use Rattle.ffm_model.specs.Contexts.{contexts_then, contexts_call, first_from, next_calls}
use Rattle.ffm_model.specs.HeldPlans.{held_arrived, held_after, held_call, held_step, held_steps}
use Rattle.ffm_model.specs.Held.{changed_at, without}
use Rattle.ffm_model.specs.Plans.{engine_after}
use Rattle.ffm_model.specs.ScriptRuns.{arrived, call_at, local_step, local_steps}
use Rattle.ffm_model.specs.Step.{step}
use Rattle.law_examples.proofs.scenarios.orders_meet_in_one_state.Goals as goal

pub returns : goal.returns
unfolding step changed_at without held_step held_steps held_arrived held_call held_after engine_after first_from next_calls contexts_call contexts_then local_step local_steps arrived call_at
returns c = record { next = refl; walk = refl; meet = refl }
