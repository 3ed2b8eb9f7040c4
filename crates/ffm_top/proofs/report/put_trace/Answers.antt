use Rattle.std.proofs.Common.{arith, ◌≤◌, ◌<◌, ◌∙◌, ap, length, List, ℕ, subst, sym}
use Rattle.std.proofs.lemmas.Result.{err_from_is_err_and}
use Rattle.std.proofs.lemmas.List.{take_all}
use Rattle.std.specs.List.{flat_map}
use Rattle.ffm_model.specs.declared.machine.Entry.{Entry}
use Rattle.ffm_model.specs.TraceText.{entry_text, line, verdict_text}
use Rattle.outside_io.specs.Sink.{Took, Writes}
use Rattle.outside_io.proofs.SinkSteps.{took_part_first, took_part_item, took_item, writes_then}
use Rattle.ffm_top.proofs.RunTexts.{actor_at, few_entries}
use Rattle.ffm_top.proofs.report.put_trace.Goals as goal

pub put_entry-requires : goal.put_entry-requires
put_entry-requires g c =
    let lt : c.loop-entry.entry-index < length c.args.trace.now.entries = subst (λ (es : List Entry). c.loop-entry.entry-index < length es) c.as_slice-entry-items.ensures c.loop-entry-test.true in
    rw c.as_slice-entry-items.ensures (actor_at c.args.counts c.args.trace.now c.loop-entry.entry-index _ lt c.requires)

pub returns-in_err-put_entry : goal.returns-in_err-put_entry
returns-in_err-put_entry g c =
    let p = err_from_is_err_and c.from_residual.result c.from_residual.ensures.1 in
    let f = λ (e : Entry). line (entry_text c.args.counts e) in
    let items = c.as_slice-entry-items.result.now in
    rw (p.1, ← c.as_slice-entry-items.ensures) (took_part_first _ _ (flat_map f items) (line (verdict_text c.args.trace.now.verdict (length items)))
    (took_part_item f items c.loop-entry.entry-index _ _ _ _ c.loop-entry-test.true c.loop-entry.invariant c.in_err-put_entry.ensures))

pub loop-entry-preserved : goal.loop-entry-preserved
loop-entry-preserved g c = took_item (λ (e : Entry). line (entry_text c.args.counts e)) c.as_slice-entry-items.result.now c.loop-entry.entry-index _ _ _ _ c.loop-entry-test.true c.loop-entry.invariant c.in_ok-put_entry.ensures

pub overflow_cast-count : goal.overflow_cast-count
overflow_cast-count g c = omega (arith, few_entries c.args.counts c.args.trace.now c.requires, c.len-count.ensures)

pub returns : goal.returns
returns g c =
    let f = λ (e : Entry). line (entry_text c.args.counts e) in
    let items = c.as_slice-entry-items.result.now in
    let all : length items ≤ c.loop-entry.entry-index = c.loop-entry-test.false in
    let front = subst (λ (es : List Entry). Took (g.S.Sink.seen c.args.out.now) (g.S.Sink.seen c.loop-entry.out) (flat_map f es)) (take_all c.loop-entry.entry-index items all) c.loop-entry.invariant in
    let last = subst (λ (n : ℕ). Writes (g.S.Sink.seen c.loop-entry.out) (g.S.Sink.seen c.put_verdict.new.out) c.put_verdict.result (line (verdict_text c.args.trace.now.verdict n))) (c.len-count.ensures ∙ ap length (sym c.as_slice-entry-items.ensures)) c.put_verdict.ensures in
    rw (← c.as_slice-entry-items.ensures) (writes_then _ _ _ c.put_verdict.result (flat_map f items) (line (verdict_text c.args.trace.now.verdict (length items))) front last)
