use Rattle.std.proofs.Common.{◌≤◌, take}
use Rattle.memory_image.specs.Pieces.{byte_at}
use Rattle.machine_check.specs.Reaching.{IsAfter}
use Rattle.machine_check.proofs.judging.follow.Given as goal

abbrev pub invariant-loop-entry : goal.invariant-loop-entry
invariant-loop-entry l = record {
  behind : IsAfter l.system (byte_at l.memory) (take l.entry-index l.entries) l.checker;
  within : l.checker.count ≤ l.limit;
}
