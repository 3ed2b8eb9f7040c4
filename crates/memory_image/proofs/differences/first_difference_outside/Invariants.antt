use Rattle.std.proofs.Common.{not, ◌&&◌}
use Rattle.memory_image.specs.Differences.{differs}
use Rattle.ffm_model.specs.Reach.{covers}
use Rattle.memory_image.specs.Pieces.{byte_at, regions_of}
use Rattle.memory_image.proofs.Compared.{IsLeastWithin}
use Rattle.memory_image.proofs.differences.first_difference_outside.Given as goal

abbrev pub invariant-loop-piece : goal.invariant-loop-piece
invariant-loop-piece l =
    IsLeastWithin (λ x. differs (byte_at l.one) (byte_at l.other) x && not (covers l.skip x)) (regions_of l.one) l.piece-index l.least
