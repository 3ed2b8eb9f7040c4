use Rattle.std.proofs.Common.{subst, take}
use Rattle.memory_image.specs.Pieces.{byte_at}
use Rattle.machine_check.specs.Checking.{Follows}
use Rattle.machine_check.proofs.Followed.{no_second_stop, part_reached}
use Rattle.machine_check.proofs.judging.reached.Goals as goal

pub unreachable-requires : goal.unreachable-requires
unreachable-requires c =
    let s = c.args.system.now in
    let m = byte_at c.args.memory.now in
    let es = c.args.entries.now in
    let stop = subst (Follows s m c.args.limit es) c.in-Part.is c.in_ok-checker.ensures in
    let again = subst (Follows s m c.args.limit (take c.in-Part.count es)) c.in-Part-2.is c.in_ok-checker-2.ensures in
    no_second_stop s m c.args.limit es c.in-Part.count c.in-Part-2.field-0 stop again

pub returns : goal.returns
returns c =
    let s = c.args.system.now in
    let m = byte_at c.args.memory.now in
    let es = c.args.entries.now in
    let stop = subst (Follows s m c.args.limit es) c.in-Part.is c.in_ok-checker.ensures in
    let behind = subst (Follows s m c.args.limit (take c.in-Part.count es)) c.in-All-2.is c.in_ok-checker-2.ensures in
    part_reached s m c.args.limit es c.in-Part.count c.in-All-2.checker stop behind.0
