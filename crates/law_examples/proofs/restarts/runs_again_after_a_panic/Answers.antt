-- Each clause holds by computing.
use Rattle.std.proofs.Common.{refl}
use Rattle.ffm_model.specs.Plans.{engine_after, plan_of}
use Rattle.ffm_model.specs.Records.{ends_blocked}
use Rattle.ffm_model.specs.ScriptRuns.{local_step, local_steps, arrived, call_at}
use Rattle.ffm_model.specs.Step.{step}
use Rattle.law_examples.proofs.restarts.runs_again_after_a_panic.Goals as goal

pub returns : goal.returns
unfolding step engine_after plan_of ends_blocked local_step local_steps arrived call_at
returns c = record { restarted = (record { ended = refl; scripted = (refl, (refl, (refl, tt))) }, refl, (record { ended = refl; scripted = (refl, (refl, (refl, tt))) }, refl)); not_restarted = (record { ended = refl; scripted = (refl, (refl, (refl, tt))) }, refl) }
