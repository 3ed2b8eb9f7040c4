use Rattle.std.proofs.Common.{◌≡◌}
use Rattle.ffm_model.specs.Memory.{vectors_read}
use Rattle.memory_image.specs.Pieces.{byte_at}
use Rattle.machine_rules.proofs.vectors.vectors_read.Given as goal

-- the vectors so far are read
abbrev pub invariant-loop-k : goal.invariant-loop-k
invariant-loop-k l = l.spans ≡ vectors_read (byte_at l.image) l.at l.k
