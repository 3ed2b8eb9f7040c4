use Rattle.std.proofs.Common.{◌≡◌, [], drop}
use Rattle.std.specs.List.{AllByRecursion}
use Rattle.serde_json.specs.View.{items_view}
use Rattle.ffm_model.specs.Attributes.{items_after}
use Rattle.manifest_json.proofs.reader.items_after.Given as goal

-- the items that are left, after those found, give what all items give
abbrev pub invariant-loop-i : goal.invariant-loop-i
invariant-loop-i g l = record {
  told : items_after (g.R.ReaderAfter.gives l.reader) l.found.items l.i (items_view (drop l.i l.items)) ≡ items_after (g.R.ReaderAfter.gives l.reader) [] 0 (items_view l.items);
  kept : AllByRecursion (g.R.ReaderAfter.keeps l.reader) l.found.items;
}
