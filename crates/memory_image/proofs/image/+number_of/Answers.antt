use Rattle.std.proofs.Common.{◌<◌, ◌+◌, ◌*◌, arith}
use Rattle.std.specs.Prelude.{slice_index}
use Rattle.memory_image.proofs.Numbers.{fits_word, few_after}
use Rattle.memory_image.proofs.image.+number_of.Goals as goal

pub overflow_mul-result : goal.overflow_mul-result
overflow_mul-result t c =
    let fits : 0 + 256 * c.number_of.result < 4294967296 = fits_word _ 0 _ (few_after c.args.bytes.now c.requires) (omega arith) c.number_of.ensures.small in
    omega arith

pub overflow_add-result : goal.overflow_add-result
overflow_add-result t c =
    let byte : slice_index c.args.bytes.now 0 < 256 = omega (arith, c.type_inv.bytes 0) in
    let fits : slice_index c.args.bytes.now 0 + 256 * c.number_of.result < 4294967296 = fits_word _ _ _ (few_after c.args.bytes.now c.requires) byte c.number_of.ensures.small in
    omega arith
