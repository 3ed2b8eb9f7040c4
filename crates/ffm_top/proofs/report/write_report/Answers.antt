use Rattle.std.proofs.lemmas.Result.{err_from_is_err_and}
use Rattle.outside_io.proofs.SinkSteps.{hands_cut, hands_flushed}
use Rattle.ffm_top.proofs.report.write_report.Goals as goal

pub returns-in_err-put_report : goal.returns-in_err-put_report
returns-in_err-put_report g c =
    let p = err_from_is_err_and c.from_residual.result c.from_residual.ensures.1 in
    rw p.1 (hands_cut _ _ _ c.in_err-put_report.ensures)

pub returns : goal.returns
returns g c = hands_flushed _ _ _ c.flush.result _ c.in_ok-put_report.ensures c.flush.ensures
