use Rattle.std.proofs.Common.{sym, ◌∙◌, arith}
use Rattle.script_engines.proofs.HeldLemmas.{held-one, held-local}
use Rattle.script_engines.proofs.StepLemmas.{steps-one, steps-zero}
use Rattle.script_engines.proofs.script.run_lines.Goals as goal
use Rattle.ffm_model.proofs.ScriptLemmas.{steps-none}

pub loop-left-preserved : goal.loop-left-preserved
loop-left-preserved c =
    let script = c.args.script.now in
    let i = c.loop-left.invariant in
    record {
      point = sym (steps-one script _ _ _ c.loop-left-test.true c.in-Some.ensures.local) ∙ i.point;
      held = λ p t. sym (held-one p script _ _ _ c.loop-left-test.true (held-local p script t _ _ c.in-Some.ensures.local)) ∙ i.held p t;
      fewer = omega (arith, i.fewer);
    }

pub returns-in_default-clause-point : goal.returns-in_default-clause-point
returns-in_default-clause-point c = rw c.in_default.ensures.kept (sym (steps-none _ _ _ c.in_default.ensures.call) ∙ c.loop-left.invariant.point)

pub returns-clause-point : goal.returns-clause-point
returns-clause-point c = sym (steps-zero _ _ _ (omega arith)) ∙ c.loop-left.invariant.point
