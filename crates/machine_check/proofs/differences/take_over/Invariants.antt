use Rattle.std.proofs.Common.{◌≡◌}
use Rattle.memory_image.specs.Pieces.{byte_at, regions_of}
use Rattle.machine_check.specs.Written.{ranges_from, taken_from}
use Rattle.machine_check.proofs.differences.take_over.Given as goal

abbrev pub invariant-loop-k : goal.invariant-loop-k
invariant-loop-k l = record {
  bytes : byte_at l.memory ≡ taken_from (byte_at l.other) (ranges_from l.written.first l.written.len l.k) (byte_at l.fn.memory);
  regions : regions_of l.memory ≡ regions_of l.fn.memory;
}
