use Rattle.std.proofs.Common.{◌≡◌, ◌+◌, ◌*◌, drop}
use Rattle.ffm_model.specs.Memory.{lengths_written}
use Rattle.memory_image.specs.Pieces.{byte_at, regions_of}
use Rattle.machine_rules.proofs.moves.put_lengths.Given as goal

-- what is stored so far, and the rest, is all
abbrev pub invariant-loop-k : goal.invariant-loop-k
invariant-loop-k l = record {
  stored : lengths_written (byte_at l.image) (l.at + 8 * l.k) (drop l.k l.spans) ≡ lengths_written (byte_at l.fn.image) l.at l.spans;
  regions : regions_of l.image ≡ regions_of l.fn.image;
}
