use Rattle.std.proofs.Common.{◌∙◌, sym, ap, refl, arith, List}
use Rattle.std.proofs.lemmas.Result.{err_from_is_err_and}
use Rattle.ffm_model.specs.declared.script.SfnFunction.{SfnFunction}
use Rattle.script_asm.specs.Made.{Fails}
use Rattle.sfn_calls.specs.FunctionLines.{function_of, functions_below}
use Rattle.sfn_calls.specs.SectionViews.{section_view}
use Rattle.sfn_calls.proofs.AssemblyLemmas.{below-next, below-wrong, below-end, no-functions, kept-next}
use Rattle.sfn_calls.proofs.assembly.functions_of_sections.Goals as goal

pub loop-at-init : goal.loop-at-init
loop-at-init c = rw c.new-functions.ensures.items (record { rest = refl; kept = λ few. no-functions })

pub returns-in_err-function-clause-gives : goal.returns-in_err-function-clause-gives
returns-in_err-function-clause-gives c =
    let p = err_from_is_err_and c.from_residual.result c.from_residual.ensures.1 in
    let wrong : Fails c.in_err-function.field-0.0 (function_of c.args.system.now c.args.partition c.loop-at.functions.items (section_view c.in-Some.section)) =
    rw (← c.as_slice.ensures.value) c.in_err-function.ensures.gives in
    rw (p.1, p.2, ← c.loop-at.invariant.rest, c.in-Some.ensures.gives)
    (below-wrong c.args.system.now c.args.partition c.loop-at.functions.items (section_view c.in-Some.section) _ c.in_err-function.field-0.0 wrong)

pub loop-at-preserved : goal.loop-at-preserved
loop-at-preserved c =
    rw c.in_ok-push.ensures.items (record {
      rest = below-next c.args.system.now c.args.partition c.loop-at.functions.items (section_view c.in-Some.section) _ c.in_ok-function.function
          (ap (λ (fs : List SfnFunction). function_of c.args.system.now c.args.partition fs (section_view c.in-Some.section)) (sym c.as_slice.ensures.value) ∙ c.in_ok-function.ensures.gives)
          ∙ (ap (functions_below c.args.system.now c.args.partition c.loop-at.functions.items) (sym c.in-Some.ensures.gives) ∙ c.loop-at.invariant.rest);
      kept = λ few. kept-next c.loop-at.functions.items c.in_ok-function.function (c.loop-at.invariant.kept few) (rw (← c.as_slice.ensures.value) c.in_ok-function.ensures.fresh) c.in_ok-function.ensures.function
          (omega (arith, c.in-Some.ensures.within, c.in_ok-function.ensures.short));
    })

pub returns-clause-gives : goal.returns-clause-gives
returns-clause-gives c =
    sym c.loop-at.invariant.rest
    ∙ below-end c.args.system.now c.args.partition c.loop-at.functions.items c.args.lines.now c.loop-at.at (omega arith)
