use Rattle.std.proofs.Common.{arith}
use Rattle.ffm_model.specs.Memory.{copy_bytes}
use Rattle.memory_image.proofs.Stored.{held}
use Rattle.memory_image.proofs.image.Image.copy.Goals as goal

pub returns-in-Some-Some-clause-copied : goal.returns-in-Some-Some-clause-copied
returns-in-Some-Some-clause-copied c =
    held (λ m. copy_bytes m c.args.from c.args.to c.args.len) c.self.inside.pieces.items c.copy_among.new.pieces c.args.self.now c.self.inside.pieces.len (omega arith) c.self.view_is
    (rw c.as_mut_slice.ensures.value at c.copy_among.ensures.copied)
