use Rattle.std.proofs.Common.{◌≡◌, ◌∙◌, List, ℕ, subst}
use Rattle.std.proofs.lemmas.Result.{err_from_is_err_and}
use Rattle.outside_io.specs.Sink.{Took, TookPart}
use Rattle.outside_io.proofs.SinkSteps.{took_part_first, writes_then}
use Rattle.ffm_model.specs.TraceText.{trace_text}
use Rattle.ffm_top.specs.Runs.{restart_line}
use Rattle.ffm_top.proofs.report.put_run.Goals as goal

pub returns-in_err-put_all : goal.returns-in_err-put_all
returns-in_err-put_all g c =
    let p = err_from_is_err_and c.from_residual.result c.from_residual.ensures.1 in
    let text : c.as_slice.result.now ≡ restart_line c.args.count = c.as_slice.ensures.value ∙ c.restart_line-line.ensures in
    rw p.1 (took_part_first _ _ (restart_line c.args.count) (trace_text c.args.counts c.args.trace.now.entries c.args.trace.now.verdict) (subst (λ (t : List ℕ). TookPart (g.S.Sink.seen c.args.out.now) (g.S.Sink.seen c.put_all.new.out) t) text c.in_err-put_all.ensures.writes))

pub returns : goal.returns
returns g c =
    let text : c.as_slice.result.now ≡ restart_line c.args.count = c.as_slice.ensures.value ∙ c.restart_line-line.ensures in
    writes_then _ _ _ c.put_trace.result (restart_line c.args.count) (trace_text c.args.counts c.args.trace.now.entries c.args.trace.now.verdict) (subst (λ (t : List ℕ). Took (g.S.Sink.seen c.args.out.now) (g.S.Sink.seen c.put_all.new.out) t) text c.in_ok-put_all.ensures.writes) c.put_trace.ensures
