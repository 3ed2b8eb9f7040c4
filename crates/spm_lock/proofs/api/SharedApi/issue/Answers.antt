use Rattle.spm_lock.proofs.Turns.{answered_as}
use Rattle.spm_lock.proofs.api.SharedApi.issue.Goals as goal

pub returns-clause-answer : goal.returns-clause-answer
returns-clause-answer g c = answered_as c.args.self.now c.args.pass.now c.issue.new.pass c.args.call c.issue.result c.issue.ensures.own c.issue.ensures.actor c.issue.ensures.turn
