use Rattle.std.proofs.lemmas.Result.{err_from_is_err_and}
use Rattle.outside_io.proofs.SinkSteps.{took_part_first, writes_then}
use Rattle.judge_command.specs.Audits.{change_lines}
use Rattle.judge_command.proofs.report.put_audit.Goals as goal

pub returns-in_err-put_changes : goal.returns-in_err-put_changes
returns-in_err-put_changes g c =
    let p = err_from_is_err_and c.from_residual.result c.from_residual.ensures.1 in
    rw p.1 (took_part_first _ _ (change_lines c.args.report.now.changes) c.args.line.now (rw c.as_slice.ensures at c.in_err-put_changes.ensures))

pub returns : goal.returns
returns g c = writes_then _ _ _ c.put_all.result (change_lines c.args.report.now.changes) c.args.line.now (rw c.as_slice.ensures at c.in_ok-put_changes.ensures) c.put_all.ensures.writes
