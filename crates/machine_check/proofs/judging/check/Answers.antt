use Rattle.std.proofs.Common.{subst, sym}
use Rattle.ffm_model.specs.Verdicts.{judged}
use Rattle.memory_image.specs.Pieces.{byte_at}
use Rattle.machine_check.specs.declared.judging.Followed.TheVariants.{All, Part}
use Rattle.machine_check.specs.Checking.{Follows}
use Rattle.machine_check.proofs.Followed.{all_checked, part_checked}
use Rattle.machine_check.proofs.judging.check.Goals as goal

pub returns-in-All : goal.returns-in-All
returns-in-All c =
    let s = c.args.system.now in
    let m = byte_at c.args.memory.now in
    let es = c.args.trace.now.entries in
    let v = c.args.trace.now.verdict in
    let all = subst (λ es. Follows s m c.args.limit es (All c.in-All.checker)) c.as_slice.ensures (subst (Follows s m c.args.limit c.as_slice.result.now) c.in-All.is c.in_ok-checker.ensures) in
    c.finish.ensures (judged s m c.args.limit es v) (all_checked s m c.args.limit es v c.in-All.checker all.0 all.1)

pub returns-in-Part : goal.returns-in-Part
returns-in-Part c =
    let s = c.args.system.now in
    let m = byte_at c.args.memory.now in
    let part = subst (λ es. Follows s m c.args.limit es (Part c.in-Part.count)) c.as_slice.ensures (subst (Follows s m c.args.limit c.as_slice.result.now) c.in-Part.is c.in_ok-checker.ensures) in
    sym (part_checked s m c.args.limit c.args.trace.now.entries c.args.trace.now.verdict c.in-Part.count part)
