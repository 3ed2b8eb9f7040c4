use Rattle.ffm_model.specs.declared.machine.Call.TheVariants.{Resume}
use Rattle.spm_lock.proofs.Turns.{answered_as}
use Rattle.spm_lock.proofs.api.SharedApi.resume.Goals as goal

pub returns-clause-answer : goal.returns-clause-answer
returns-clause-answer g c = answered_as c.args.self.now c.args.pass.now c.resume.new.pass Resume c.resume.result c.resume.ensures.own c.resume.ensures.actor c.resume.ensures.turn
