use Rattle.std.proofs.Common.{refl}
use Rattle.partition_sim.proofs.StepLemmas.{settled}
use Rattle.partition_sim.proofs.context.Context.settle.Goals as goal

pub returns-then-self : goal.returns-then-self
returns-then-self c = λ p r. r.stands c.if-self.true

pub returns : goal.returns
returns c = λ p r. settled c.args.script.now p _ _ c.if-self.false refl c.arrive-place.ensures c.call_at-self.ensures c.place_after-self.ensures r
