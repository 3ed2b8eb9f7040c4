-- Each clause holds by computing.
use Rattle.std.proofs.Common.{refl}
use Rattle.ffm_model.specs.Contexts.{first_from, next_calls, contexts_call, contexts_then}
use Rattle.ffm_model.specs.Plans.{engine_after, plan_of}
use Rattle.ffm_model.specs.Records.{ends_blocked}
use Rattle.ffm_model.specs.ScriptRuns.{local_step, local_steps, arrived, call_at}
use Rattle.ffm_model.specs.Step.{step}
use Rattle.law_examples.proofs.contexts.blocked_thread_keeps_the_turn.Goals as goal

pub returns : goal.returns
unfolding step first_from next_calls contexts_call contexts_then engine_after plan_of ends_blocked local_step local_steps arrived call_at
returns c = record { run = refl; threads = (refl, tt) }
