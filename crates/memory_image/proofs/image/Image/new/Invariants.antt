use Rattle.std.proofs.Common.{◌≡◌, take}
use Rattle.ffm_model.specs.Memory.{opening_memory}
use Rattle.ffm_model.specs.Ranges.{ranges_of}
use Rattle.memory_image.specs.Pieces.{byte_at, regions_of}
use Rattle.memory_image.proofs.image.Image.new.Given as goal

-- the pieces so far are stored
abbrev pub invariant-loop-bytes : goal.invariant-loop-bytes
invariant-loop-bytes l = record {
  stored : byte_at l.image ≡ opening_memory (take l.bytes-index l.bytes-items);
  regions : regions_of l.image ≡ ranges_of l.regions;
}
