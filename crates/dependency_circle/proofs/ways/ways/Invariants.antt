use Rattle.std.proofs.Common.{◌-◌}
use Rattle.dependency_circle.specs.Ways.{IsMarked}
use Rattle.dependency_circle.proofs.SearchLemmas.{Search}
use Rattle.dependency_circle.proofs.ways.ways.Given as goal

abbrev pub decreases-places : goal.decreases-places
decreases-places g l = l.count - l.i

abbrev pub invariant-places : goal.invariant-places
invariant-places g l = IsMarked l.count l.front l.found.items l.marks.items × Search l.count (g.G.Graph.edge l.graph) l.home l.front l.found.items l.i
