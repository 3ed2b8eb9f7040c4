use Rattle.std.proofs.Common.{◌≤◌, drop}
use Rattle.memory_image.specs.Pieces.{byte_at}
use Rattle.view_diagram.proofs.Gathered.{GathersTo}
use Rattle.view_diagram.proofs.gathering.gather.Given as goal

abbrev pub invariant-loop-entry : goal.invariant-loop-entry
invariant-loop-entry l = record {
  gathers : GathersTo l.system (byte_at l.memory) l.limit l.part l.entries l.checker l.last.places.items l.arrows.items (drop l.entry-index l.entries);
  few : l.checker.count ≤ l.entry-index;
}
