use Rattle.std.proofs.Common.{length}
use Rattle.ffm_model.proofs.well_formed.+have_own_indices.Given as goal

abbrev pub decreases-have_own_indices : goal.decreases-have_own_indices
decreases-have_own_indices l = length l.services.now
