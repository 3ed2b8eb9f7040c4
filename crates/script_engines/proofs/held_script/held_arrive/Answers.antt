use Rattle.std.proofs.Common.{◌<◌, refl, sym, ◌∙◌, arith}
use Rattle.script_engines.specs.Holdings.{holding}
use Rattle.script_engines.proofs.HeldLemmas.{held-begins, held-none, held-one, held-zero}
use Rattle.script_engines.proofs.held_script.held_arrive.Goals as goal

pub loop-place-init : goal.loop-place-init
loop-place-init c = record {
  holder = refl;
  way = held-begins c.args.held.now.holder c.args.script.now (holding c.args.registers.now c.args.place c.args.held.now.table);
}

pub returns-then-more-eq0-clause-arrived : goal.returns-then-more-eq0-clause-arrived
returns-then-more-eq0-clause-arrived c =
    let p = c.args.held.now.holder in
    sym (held-zero p c.args.script.now _ _ c.if-more-eq0.true) ∙ (c.run_lines-at.ensures.held p c.loop-place.held.table ∙ c.loop-place.invariant.way)

pub returns-in_default-clause-arrived : goal.returns-in_default-clause-arrived
returns-in_default-clause-arrived c =
    let p = c.args.held.now.holder in
    let more : 0 < c.run_lines-at.result.1 = omega (arith, c.if-more-eq0.false) in
    let none = c.in_default.ensures.makes (c.run_lines-at.ensures.ended more) in
    rw (c.in_default.ensures.kept, c.in_default.ensures.held)
    (sym (held-none p c.args.script.now c.run_lines-at.result.1 _ (rw c.loop-place.invariant.holder at none)) ∙ (c.run_lines-at.ensures.held p c.loop-place.held.table ∙ c.loop-place.invariant.way))

pub loop-place-preserved : goal.loop-place-preserved
loop-place-preserved c =
    let p = c.args.held.now.holder in
    let more : 0 < c.run_lines-at.result.1 = omega (arith, c.if-more-eq0.false) in
    record {
      holder = c.in-Some.ensures.holder ∙ c.loop-place.invariant.holder;
      way = sym (held-one p c.args.script.now c.run_lines-at.result.1 _ _ more (rw c.loop-place.invariant.holder at c.in-Some.ensures.leads))
          ∙ (c.run_lines-at.ensures.held p c.loop-place.held.table ∙ c.loop-place.invariant.way);
    }
