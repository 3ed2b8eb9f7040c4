use Rattle.std.proofs.Common.{List, subst}
use Rattle.std.proofs.lemmas.List.{take_all}
use Rattle.std.proofs.lemmas.Result.{err_from_is_err_and}
use Rattle.machine_check.specs.declared.auditing.Change.{Change}
use Rattle.outside_io.specs.Sink.{Took}
use Rattle.outside_io.proofs.SinkSteps.{took_part_item, took_item}
use Rattle.judge_command.specs.Audits.{change_line, change_lines}
use Rattle.judge_command.proofs.changes.put_changes.Goals as goal

pub returns-in_err-put_change : goal.returns-in_err-put_change
returns-in_err-put_change g c =
    let p = err_from_is_err_and c.from_residual.result c.from_residual.ensures.1 in
    rw p.1 (took_part_item change_line c.args.changes.now c.loop-change.change-index _ _ _ _ c.loop-change-test.true c.loop-change.invariant c.in_err-put_change.ensures)

pub loop-change-preserved : goal.loop-change-preserved
loop-change-preserved g c = took_item change_line c.args.changes.now c.loop-change.change-index _ _ _ _ c.loop-change-test.true c.loop-change.invariant c.in_ok-put_change.ensures

pub returns : goal.returns
returns g c =
    subst (λ (xs : List Change). Took (g.S.Sink.seen c.args.out.now) (g.S.Sink.seen c.loop-change.out) (change_lines xs)) (take_all c.loop-change.change-index c.args.changes.now c.loop-change-test.false) c.loop-change.invariant
