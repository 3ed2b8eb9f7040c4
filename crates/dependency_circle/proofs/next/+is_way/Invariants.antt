use Rattle.std.proofs.Common.{length}
use Rattle.dependency_circle.proofs.next.+is_way.Given as goal

abbrev pub decreases-is_way : goal.decreases-is_way
decreases-is_way g l = length l.through.now
