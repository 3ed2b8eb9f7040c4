use Rattle.std.proofs.Common.{refl}
use Rattle.partition_sim.proofs.StepLemmas.{taken}
use Rattle.partition_sim.proofs.context.Context.take.Goals as goal

pub returns : goal.returns
returns c = λ script p a. taken script p c.args.outcome.now _ _ c.note.ensures refl refl a
