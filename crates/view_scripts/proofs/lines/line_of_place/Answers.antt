use Rattle.std.proofs.Common.{◌≤◌, length, arith, ne_eqb, sym, ◌∙◌}
use Rattle.view_scripts.proofs.LineSteps.{ends, finds, goes-on, skips}
use Rattle.view_scripts.proofs.lines.line_of_place.Goals as goal

pub loop-number-preserved-then-not-is_order : goal.loop-number-preserved-then-not-is_order
loop-number-preserved-then-not-is_order c =
    sym (skips c.args.lines.now c.loop-number.number c.loop-number.left c.index-lines-number.result c.loop-number-test.true c.index-lines-number.is (sym c.if-not-is_order.ensures))
    ∙ c.loop-number.invariant

pub returns-then-left-eq0-clause-line : goal.returns-then-left-eq0-clause-line
returns-then-left-eq0-clause-line c =
    sym (finds c.args.lines.now c.loop-number.number c.loop-number.left c.index-lines-number.result c.loop-number-test.true c.index-lines-number.is (sym c.if-not-is_order.ensures) c.if-left-eq0.true)
    ∙ c.loop-number.invariant

pub loop-number-preserved : goal.loop-number-preserved
loop-number-preserved c =
    sym (goes-on c.args.lines.now c.loop-number.number c.loop-number.left c.index-lines-number.result c.loop-number-test.true c.index-lines-number.is (sym c.if-not-is_order.ensures) (ne_eqb _ _ c.if-left-eq0.false))
    ∙ c.loop-number.invariant

pub returns-clause-line : goal.returns-clause-line
returns-clause-line c =
    let over : length c.args.lines.now ≤ c.loop-number.number = omega arith in
    ends c.args.lines.now c.loop-number.number c.loop-number.left over ∙ c.loop-number.invariant
