use Rattle.std.proofs.Common.{◌≡◌, ◌∙◌, ◌<◌, ◌≤◌, List, length, get_or, map, true, ap, subst, sym}
use Rattle.std.proofs.lemmas.List.{take_all}
use Rattle.std.specs.List.{list_all}
use Rattle.std.proofs.lemmas.Result.{err_from_is_err_and}
use Rattle.ffm_model.specs.declared.trace.Trace.{Trace}
use Rattle.ffm_model.specs.Counts.{ActorCounts}
use Rattle.outside_io.specs.Sink.{Took, TookPart}
use Rattle.scenario_runs.specs.Restarting.{finished, fits_counts}
use Rattle.ffm_top.specs.Runs.{run_text, runs_text}
use Rattle.ffm_top.proofs.RunTexts.{run_more, run_cut, trace_at}
use Rattle.ffm_top.proofs.report.put_runs.Goals as goal

pub put_run-requires : goal.put_run-requires
put_run-requires g c =
    let items = c.deref-trace-items.result.now in
    let fits : list_all (fits_counts c.counts-counts.result) items ≡ true = rw (c.counts-counts.ensures, c.deref-trace-items.ensures.value) c.args.runs.now.fit in
    subst (λ (t : Trace). fits_counts c.counts-counts.result t ≡ true) (sym c.trace-item.is) (trace_at c.counts-counts.result items c.loop-count.count c.trace-item.result c.loop-count-test.true fits)

pub returns-in_err-put_run : goal.returns-in_err-put_run
returns-in_err-put_run g c =
    let p = err_from_is_err_and c.from_residual.result c.from_residual.ensures.1 in
    let ts = c.args.runs.now.traces.items in
    let k = c.loop-count.count in
    let d = c.trace-item.result in
    let before = g.S.Sink.seen c.loop-count.out in
    let behind = g.S.Sink.seen c.put_run.new.out in
    let lt : k < length ts = subst (λ (xs : List Trace). k < length xs) c.deref-trace-items.ensures.value c.loop-count-test.true in
    let item : d ≡ get_or ts k d = c.trace-item.is ∙ ap (λ (xs : List Trace). get_or xs k d) c.deref-trace-items.ensures.value in
    let piece : TookPart before behind (run_text c.counts-counts.result k (finished (get_or ts k d))) =
    subst (λ (t : Trace). TookPart before behind (run_text c.counts-counts.result k (finished t))) item c.in_err-put_run.ensures in
    rw p.1 (subst (λ (n : ActorCounts). TookPart (g.S.Sink.seen c.args.out.now) behind (runs_text n 0 (map finished ts))) c.counts-counts.ensures
    (run_cut c.counts-counts.result ts k d (g.S.Sink.seen c.args.out.now) before behind lt c.loop-count.invariant piece))

pub loop-count-preserved : goal.loop-count-preserved
loop-count-preserved g c =
    let ts = c.args.runs.now.traces.items in
    let k = c.loop-count.count in
    let d = c.trace-item.result in
    let before = g.S.Sink.seen c.loop-count.out in
    let behind = g.S.Sink.seen c.put_run.new.out in
    let lt : k < length ts = subst (λ (xs : List Trace). k < length xs) c.deref-trace-items.ensures.value c.loop-count-test.true in
    let item : d ≡ get_or ts k d = c.trace-item.is ∙ ap (λ (xs : List Trace). get_or xs k d) c.deref-trace-items.ensures.value in
    let piece : Took before behind (run_text c.counts-counts.result k (finished (get_or ts k d))) =
    subst (λ (t : Trace). Took before behind (run_text c.counts-counts.result k (finished t))) item c.in_ok-put_run.ensures in
    run_more c.counts-counts.result ts k d (g.S.Sink.seen c.args.out.now) before behind lt c.loop-count.invariant piece

pub returns : goal.returns
returns g c =
    let ts = c.args.runs.now.traces.items in
    let all : length ts ≤ c.loop-count.count = subst (λ (xs : List Trace). length xs ≤ c.loop-count.count) c.deref-trace-items.ensures.value c.loop-count-test.false in
    subst (λ (n : ActorCounts). Took (g.S.Sink.seen c.args.out.now) (g.S.Sink.seen c.loop-count.out) (runs_text n 0 (map finished ts))) c.counts-counts.ensures
    (subst (λ (xs : List Trace). Took (g.S.Sink.seen c.args.out.now) (g.S.Sink.seen c.loop-count.out) (runs_text c.counts-counts.result 0 (map finished xs))) (take_all c.loop-count.count ts all) c.loop-count.invariant)
