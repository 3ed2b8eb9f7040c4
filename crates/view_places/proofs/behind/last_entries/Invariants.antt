use Rattle.std.proofs.Common.{◌≡◌, take}
use Rattle.view_places.specs.Showing.{AreLastPlaces}
use Rattle.view_places.proofs.behind.last_entries.Given as goal

abbrev pub invariant-loop-entry : goal.invariant-loop-entry
invariant-loop-entry l = record {
  place : l.place ≡ l.entry-index;
  last : AreLastPlaces l.system (take l.entry-index l.entries) l.last.items;
}
