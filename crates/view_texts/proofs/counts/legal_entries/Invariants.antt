use Rattle.std.proofs.Common.{◌≡◌, ◌≤◌, length, take}
use Rattle.memory_image.specs.Pieces.{byte_at}
use Rattle.machine_check.specs.Reaching.{IsAfter}
use Rattle.view_texts.specs.Counted.{AreCounts}
use Rattle.view_texts.specs.Moves.{moved_in}
use Rattle.view_texts.specs.Waited.{waits_in, waits_of}
use Rattle.view_texts.proofs.counts.legal_entries.Given as goal

abbrev pub invariant-loop-entry : goal.invariant-loop-entry
invariant-loop-entry l = record {
  behind : IsAfter l.system (byte_at l.memory) (take l.entry-index l.entries) l.checker;
  within : l.checker.count ≤ l.limit;
  count : l.counts.count ≡ l.checker.count;
  total : l.counts.total ≡ length l.entries;
  counts : AreCounts l.system (byte_at l.memory) l.entries l.checker.count l.counts.entries.items l.counts.calls.items l.counts.most_connections l.counts.most_messages;
  moved : l.counts.moved.items ≡ moved_in l.system (byte_at l.memory) l.entries l.checker.count;
  waits : waits_of l.counts ≡ waits_in l.system l.entries l.checker.count;
}
