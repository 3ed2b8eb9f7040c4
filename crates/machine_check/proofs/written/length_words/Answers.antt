use Rattle.std.proofs.Common.{◌<◌, ◌≤◌, ◌+◌, ◌*◌, arith}
use Rattle.memory_image.proofs.Stored.{ends_below}
use Rattle.machine_check.proofs.written.length_words.Goals as goal

pub overflow_add-result : goal.overflow_add-result
overflow_add-result c =
    let some : 0 < c.args.message.now.vectors.out_len = omega arith in
    let end : c.args.message.now.vectors.out_vec + 8 * 0 + 8 ≤ 4294967296 = ends_below (c.args.message.now.vectors.out_vec + 8 * 0) 8 _ c.keeps_its_limits.ensures (c.requires.descriptors 0 some) (omega arith) in
    omega arith
