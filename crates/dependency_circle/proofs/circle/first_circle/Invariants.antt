use Rattle.std.proofs.Common.{◌-◌, length, []}
use Rattle.dependency_circle.specs.Ways.{Begins}
use Rattle.dependency_circle.proofs.Lists.{IsLeast}
use Rattle.dependency_circle.proofs.circle.first_circle.Given as goal

abbrev pub decreases-steps : goal.decreases-steps
decreases-steps g l = l.count - length l.front.items

abbrev pub invariant-steps : goal.invariant-steps
invariant-steps g l = IsLeast l.count (g.G.Graph.edge l.graph) l.front.items
    × (Begins l.count (g.G.Graph.edge l.graph) [] → Begins l.count (g.G.Graph.edge l.graph) l.front.items)
