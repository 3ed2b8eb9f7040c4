use Rattle.std.proofs.Common.{◌≡◌}
use Rattle.memory_image.specs.Differences.{differs}
use Rattle.memory_image.specs.Pieces.{byte_at, regions_of}
use Rattle.memory_image.proofs.Compared.{count_within}
use Rattle.memory_image.proofs.differences.count_differences.Given as goal

abbrev pub invariant-loop-piece : goal.invariant-loop-piece
invariant-loop-piece l = l.total ≡ count_within (differs (byte_at l.one) (byte_at l.other)) (regions_of l.one) l.piece-index
