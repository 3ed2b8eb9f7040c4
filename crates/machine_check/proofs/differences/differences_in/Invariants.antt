use Rattle.std.proofs.Common.{◌≡◌, ◌≤◌, ◌*◌}
use Rattle.memory_image.specs.Pieces.{byte_at}
use Rattle.machine_check.specs.Written.{ranges_from, AreDifferences}
use Rattle.machine_check.proofs.differences.differences_in.Given as goal

abbrev pub invariant-loop-k : goal.invariant-loop-k
invariant-loop-k l = record {
  found : AreDifferences l.system l.actor.0 (byte_at l.old) (byte_at l.new) (ranges_from l.written.first l.written.len l.k) l.found;
  none : l.k ≡ 0 → l.found.count ≡ 0;
  words : l.written.len ≡ 4 → l.found.count ≤ 4 * l.k;
}
