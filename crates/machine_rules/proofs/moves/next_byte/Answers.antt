use Rattle.std.proofs.Common.{arith}
use Rattle.memory_image.proofs.Stored.{ends_below}
use Rattle.machine_rules.proofs.moves.next_byte.Goals as goal

pub overflow_add-result : goal.overflow_add-result
overflow_add-result c = omega (arith, ends_below c.args.span.now.base c.args.span.now.len _ c.keeps_its_limits.ensures c.requires.inside (omega arith))
