use Rattle.std.proofs.Common.{arith}
use Rattle.ffm_model.specs.Memory.{write_bytes}
use Rattle.memory_image.proofs.Stored.{held}
use Rattle.memory_image.proofs.image.Image.store_bytes.Goals as goal

pub returns-in-Some-clause-stored : goal.returns-in-Some-clause-stored
returns-in-Some-clause-stored c =
    held (λ m. write_bytes m c.args.address c.args.bytes.now) c.self.inside.pieces.items c.store_among.new.pieces c.args.self.now c.self.inside.pieces.len (omega arith) c.self.view_is
    (rw c.as_mut_slice.ensures.value at c.store_among.ensures.stored)
