use Rattle.dependency_circle.proofs.SpreadLemmas.{Spread}
use Rattle.dependency_circle.proofs.ways.spread.Given as goal

abbrev pub invariant-loop-x : goal.invariant-loop-x
invariant-loop-x g l = Spread (g.G.Graph.edge l.graph) l.y l.initial.found.items l.initial.marks.items l.found.items l.marks.items l.x
