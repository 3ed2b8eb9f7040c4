-- Each clause holds by computing.
use Rattle.std.proofs.Common.{refl}
use Rattle.ffm_model.specs.Functions.{signals_in, lowest, function_step, function_steps, function_call_at, returns_at}
use Rattle.ffm_model.specs.SfnRuns.{sfn_services_from, sfn_partition, reached}
use Rattle.ffm_model.specs.Step.{step}
use Rattle.law_examples.proofs.functions.connection_answered_by_a_function.Goals as goal

pub returns : goal.returns
unfolding step signals_in lowest function_step function_steps function_call_at returns_at sfn_services_from sfn_partition reached
returns c = record { run = refl; named = refl; rounds = (refl, (refl, (refl, (0x10, (refl, (_, (refl, (refl, (_, (refl, (refl, tt))))))))))) }
