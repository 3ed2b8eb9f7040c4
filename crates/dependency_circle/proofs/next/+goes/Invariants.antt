use Rattle.std.proofs.Common.{length}
use Rattle.dependency_circle.proofs.next.+goes.Given as goal

abbrev pub decreases-goes : goal.decreases-goes
decreases-goes g l = length l.through.now
