use Rattle.std.proofs.Common.{[]}
use Rattle.dependency_circle.specs.Ways.{IsMarked}
use Rattle.dependency_circle.proofs.ways.marks_of.Given as goal

abbrev pub invariant-loop-x : goal.invariant-loop-x
invariant-loop-x l = IsMarked l.x l.front [] l.marks.items
