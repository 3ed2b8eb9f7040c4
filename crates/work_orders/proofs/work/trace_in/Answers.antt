use Rattle.std.proofs.lemmas.Result.{err_from_is_err_and}
use Rattle.std.proofs.Common.{Ok}
use Rattle.ffm_model.specs.Reading.{asks_nothing, file_at}
use Rattle.outside_io.proofs.FilesSteps.{asks_given, asks_then, asks_stops}
use Rattle.work_orders.specs.declared.limits.TheConstants.{MAX_TRACE_BYTES}
use Rattle.work_orders.specs.Work.{Work, judge_of, trace_in, trace_place}
use Rattle.work_orders.proofs.work.trace_in.Goals as goal

pub returns-in_err-trace-clause-asks : goal.returns-in_err-trace-clause-asks
unfolding trace_in
returns-in_err-trace-clause-asks g c =
    let p = err_from_is_err_and c.from_residual.result c.from_residual.ensures.1 in
    rw (p.1, p.2) (asks_stops {Z = Work} _ _ _ (λ of. file_at of trace_place MAX_TRACE_BYTES c.args.name.now) (λ of bytes. asks_nothing (Ok (judge_of c.args.inspection c.args.system c.args.scenario bytes))) c.in_err-trace.ensures.asks)

pub returns-clause-asks : goal.returns-clause-asks
unfolding trace_in
returns-clause-asks g c =
    let w = judge_of c.args.inspection c.args.system c.args.scenario c.in_ok-trace.trace.items in
    asks_then _ _ _ (Ok w) (λ of. file_at of trace_place MAX_TRACE_BYTES c.args.name.now) (λ of bytes. asks_nothing (Ok (judge_of c.args.inspection c.args.system c.args.scenario bytes))) c.in_ok-trace.trace.items c.in_ok-trace.ensures.asks (asks_given _ w)
