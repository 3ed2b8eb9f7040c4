use Rattle.std.proofs.Common.{ap, arith, length, subst, take}
use Rattle.memory_image.specs.Pieces.{byte_at}
use Rattle.machine_check.specs.Reaching.{IsReached}
use Rattle.view_places.proofs.Places.{place_illegal}
use Rattle.view_places.proofs.behind.after_place.Goals as goal

pub returns-then-checker-place : goal.returns-then-checker-place
returns-then-checker-place c =
    let s = c.args.system.now in
    let m = byte_at c.args.memory.now in
    let r = c.in_ok-checker.checker in
    let it = subst (λ xs. IsReached s m c.args.limit (take c.args.place xs) r) c.as_slice-entries.ensures c.in_ok-checker.ensures in
    record { found = place_illegal s m c.args.limit c.args.trace.now.entries c.args.place r (omega (arith, ap length c.as_slice-entries.ensures)) it c.if-checker-place.true }
