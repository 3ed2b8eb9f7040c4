use Rattle.std.proofs.Common.{arith}
use Rattle.view_places.proofs.LastPlaces.{next_entry}
use Rattle.view_places.proofs.behind.last_entries.Goals as goal

pub loop-entry-preserved : goal.loop-entry-preserved
loop-entry-preserved c =
    let kept = c.loop-entry.invariant in
    record {
      place = omega (arith, kept.place);
      last = next_entry c.args.system.now c.args.entries.now c.loop-entry.entry-index c.loop-entry.place _ c.loop-entry.last.items _ c.loop-entry-test.true kept.place kept.last c.put_last.ensures;
    }
