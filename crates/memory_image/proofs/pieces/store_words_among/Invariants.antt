use Rattle.std.proofs.Common.{◌≡◌, ◌+◌, ◌*◌, drop}
use Rattle.ffm_model.specs.Memory.{words_stored}
use Rattle.memory_image.specs.Pieces.{byte_at, regions_of}
use Rattle.memory_image.proofs.pieces.store_words_among.Given as goal

-- what is stored so far, and the rest, is all
abbrev pub invariant-loop-k : goal.invariant-loop-k
invariant-loop-k l = record {
  stored : words_stored (byte_at l.pieces) (l.address + 4 * l.k) (drop l.k l.words) ≡ words_stored (byte_at l.fn.pieces) l.address l.words;
  regions : regions_of l.pieces ≡ regions_of l.fn.pieces;
}
