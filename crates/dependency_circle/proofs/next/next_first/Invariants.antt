use Rattle.std.proofs.Common.{[]}
use Rattle.dependency_circle.proofs.NextLemmas.{NoneBelow}
use Rattle.dependency_circle.proofs.next.next_first.Given as goal

abbrev pub invariant-loop-home : goal.invariant-loop-home
invariant-loop-home g l = NoneBelow l.count (g.G.Graph.edge l.graph) [] l.home
