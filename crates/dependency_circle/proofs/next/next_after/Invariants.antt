use Rattle.dependency_circle.proofs.NextLemmas.{NoneBelow}
use Rattle.dependency_circle.proofs.next.next_after.Given as goal

abbrev pub invariant-loop-k : goal.invariant-loop-k
invariant-loop-k g l = NoneBelow l.count (g.G.Graph.edge l.graph) l.front l.k
