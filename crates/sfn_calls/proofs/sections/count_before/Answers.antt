use Rattle.std.proofs.Common.{sym, ◌∙◌, arith}
use Rattle.sfn_calls.proofs.SectionLemmas.{no-head, is-head, count-next, count-head, count-end}
use Rattle.sfn_calls.proofs.sections.count_before.Goals as goal

pub returns-then-is_some-clause-count : goal.returns-then-is_some-clause-count
returns-then-is_some-clause-count c =
    let head = is-head c.head_name.result _ c.head_name.ensures (sym c.is_some.ensures ∙ c.if-is_some.true) in
    count-head c.args.lines.now c.loop-i.i c.index-lines-i.result head.0 c.loop-i-test.true c.index-lines-i.is head.1 c.loop-i.invariant

pub loop-i-preserved : goal.loop-i-preserved
loop-i-preserved c =
    count-next c.args.lines.now c.loop-i.i c.index-lines-i.result c.loop-i-test.true c.index-lines-i.is
    (no-head c.head_name.result _ c.head_name.ensures (sym c.is_some.ensures ∙ c.if-is_some.false)) c.loop-i.invariant

pub returns-clause-count : goal.returns-clause-count
returns-clause-count c = count-end c.args.lines.now c.loop-i.i (omega arith) (omega arith) c.loop-i.invariant
