use Rattle.ffm_model.proofs.PanicLemmas.{effect-steps}
use Rattle.ffm_model.proofs.panics.panics_act_in_steps.Goals as goal

pub returns : goal.returns
returns c = effect-steps
