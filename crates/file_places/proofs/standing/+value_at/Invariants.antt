use Rattle.std.proofs.Common.{length}
use Rattle.file_places.proofs.standing.+value_at.Given as goal

abbrev pub decreases-value_at : goal.decreases-value_at
decreases-value_at c = length c.steps.now
