use Rattle.std.proofs.Common.{◌≡◌, take}
use Rattle.std.specs.Prelude.{map}
use Rattle.memory_image.specs.Pieces.{zero_piece}
use Rattle.memory_image.proofs.pieces.zero_pieces.Given as goal

abbrev pub invariant-loop-region : goal.invariant-loop-region
invariant-loop-region l = l.pieces.items ≡ map zero_piece (take l.region-index l.regions)
