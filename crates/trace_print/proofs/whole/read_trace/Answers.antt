use Rattle.std.proofs.Common.{◌≡◌, ◌∙◌, length, sym, rules}
use Rattle.std.proofs.lemmas.List.{take_rest}
use Rattle.trace_print.proofs.Entries.{FewActors}
use Rattle.trace_print.proofs.Traces.{same_trace}
use Rattle.trace_print.proofs.WholeTrace.{found_by, told, cut_off, never}
use Rattle.trace_print.proofs.whole.read_trace.Goals as goal

pub returns-in-Ok-Verdict-clause-only : goal.returns-in-Ok-Verdict-clause-only
returns-in-Ok-Verdict-clause-only c =
    let few : FewActors c.args.counts = search rules in
    let count : c.loop-start.count ≡ length c.loop-start.entries.items = search rules in
    let last = rw (c.in-Ok-Verdict.is, c.in-Ok-Verdict.field-0-is, take_rest) at c.first_line.ensures in
    let found = found_by c.args.counts c.loop-start.count c.args.bytes.now _ c.loop-start.entries.items c.in-Ok-Verdict.verdict c.loop-start.invariant.text count last in
    λ es v fits limit e. rw c.of-entries.ensures (same_trace c.args.counts few c.loop-start.entries.items es c.in-Ok-Verdict.verdict v c.loop-start.invariant.fits fits (sym found ∙ e))

pub returns-in-Err-clause-wrong : goal.returns-in-Err-clause-wrong
returns-in-Err-clause-wrong c =
    let count : c.loop-start.count ≡ length c.loop-start.entries.items = search rules in
    let wrong = rw (c.in-Err.is, take_rest) at c.first_line.ensures in
    told c.args.counts c.loop-start.count c.args.bytes.now _ c.loop-start.entries.items c.in-Err.line c.loop-start.invariant.text count c.loop-start.invariant.few c.loop-start.invariant.fits wrong

pub returns-in-Err-clause-only : goal.returns-in-Err-clause-only
returns-in-Err-clause-only c = λ es v fits limit e. never c.args.counts c.args.bytes.now c.in-Err.line es v (returns-in-Err-clause-wrong c) fits limit e

pub returns-clause-wrong : goal.returns-clause-wrong
returns-clause-wrong c =
    let count : c.loop-start.count ≡ length c.loop-start.entries.items = search rules in
    told c.args.counts c.loop-start.count c.args.bytes.now _ c.loop-start.entries.items _ c.loop-start.invariant.text count c.loop-start.invariant.few c.loop-start.invariant.fits
    (cut_off c.args.counts c.loop-start.count c.loop-start.start c.args.bytes.now (search rules))

pub returns-clause-only : goal.returns-clause-only
returns-clause-only c = λ es v fits limit e. never c.args.counts c.args.bytes.now _ es v (returns-clause-wrong c) fits limit e
