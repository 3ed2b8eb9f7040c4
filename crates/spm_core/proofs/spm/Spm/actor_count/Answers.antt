use Rattle.ffm_model.proofs.ActorLemmas.{actor_count_le}
use Rattle.spm_core.proofs.spm.Spm.actor_count.Goals as goal

pub returns-clause-few : goal.returns-clause-few
returns-clause-few c = rw c.actor_count.ensures (actor_count_le c.self.inside.system)
