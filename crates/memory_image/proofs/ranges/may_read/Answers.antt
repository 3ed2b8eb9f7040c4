use Rattle.std.proofs.Common.{◌<◌, ◌∙◌, arith}
use Rattle.ffm_model.specs.Memory.{is_ram_of, is_mmio_of}
use Rattle.memory_image.proofs.Located.{read_is}
use Rattle.memory_image.proofs.ranges.may_read.Goals as goal

pub returns-in-Some : goal.returns-in-Some
returns-in-Some c =
    let some : 0 < c.args.len = omega arith in
    c.is_readable_by.ensures
    ∙ read_is c.args.system.now c.args.actor.0 c.args.base c.args.len _ _ some (c.in-Some.ensures (is_ram_of c.args.system.now c.args.actor.0)) (c.in-Some.ensures (is_mmio_of c.args.actor.0))

pub returns-in-None : goal.returns-in-None
returns-in-None c =
    let some : 0 < c.args.len = omega arith in
    read_is c.args.system.now c.args.actor.0 c.args.base c.args.len _ _ some (c.in-None.ensures (is_ram_of c.args.system.now c.args.actor.0)) (c.in-None.ensures (is_mmio_of c.args.actor.0))
