use Rattle.std.proofs.Common.{arith, length, ◌*◌}
use Rattle.ffm_model.specs.Memory.{words_stored}
use Rattle.memory_image.proofs.Stored.{held}
use Rattle.memory_image.proofs.Words.{words-end}
use Rattle.memory_image.proofs.image.Image.store_words.Goals as goal

pub store_words_among-requires-clause-end : goal.store_words_among-requires-clause-end
store_words_among-requires-clause-end c = words-end c.args.address (4 * length c.args.words.now) _ c.keeps_its_limits.ensures c.requires c.ranges.address.fits

pub returns-in-Some-clause-stored : goal.returns-in-Some-clause-stored
returns-in-Some-clause-stored c =
    held (λ m. words_stored m c.args.address c.args.words.now) c.self.inside.pieces.items c.store_words_among.new.pieces c.args.self.now c.self.inside.pieces.len (omega arith) c.self.view_is
    (rw c.as_mut_slice.ensures.value at c.store_words_among.ensures.stored)
