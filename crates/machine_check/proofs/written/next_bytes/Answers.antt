use Rattle.std.proofs.Common.{◌≡◌, ◌<◌, ◌≤◌, ◌+◌, ◌-◌, arith}
use Rattle.std.specs.Prelude.{min}
use Rattle.memory_image.proofs.Stored.{ends_below}
use Rattle.machine_check.proofs.written.next_bytes.Goals as goal

pub overflow_add-span : goal.overflow_add-span
overflow_add-span c =
    let is : c.min-count.result ≡ min c.args.len (c.args.span.now.len - c.args.span.now.moved) = c.min-count.ensures in
    let some : c.args.span.now.moved < c.args.span.now.len = omega (arith, is, c.if-count-eq0.false) in
    let end : c.args.span.now.base + c.args.span.now.len ≤ 4294967296 = ends_below c.args.span.now.base c.args.span.now.len _ c.keeps_its_limits.ensures c.requires.inside (omega (arith, some)) in
    omega (arith, end, some)
