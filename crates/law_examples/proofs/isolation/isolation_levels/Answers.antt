-- Each clause holds by computing.
use Rattle.std.proofs.Common.{refl}
use Rattle.ffm_model.specs.Step.{step}
use Rattle.law_examples.proofs.isolation.isolation_levels.Goals as goal

pub returns : goal.returns
unfolding step
returns c = record { level_1 = refl; level_1_shared = refl; level_1_types = refl; level_1_types_shared = refl; level_2 = refl; level_2_shared = refl; level_2_types = refl; level_2_types_apart = refl; level_3 = refl; level_3_apart = refl; level_3_types = refl; level_3_types_apart = refl; client_never = refl }
