use Rattle.std.proofs.Common.{arith, ◌∙◌, sym, ap, ap₂, subst, List, [], ◌∷◌, ◌++◌, length}
use Rattle.std.specs.List.{AllByRecursion}
use Rattle.ffm_model.specs.declared.script.Instruction.{Instruction}
use Rattle.ffm_model.specs.declared.script.SfnFunction.{SfnFunction}
use Rattle.ffm_model.specs.SfnScripts.{IsFunction}
use Rattle.sfn_calls.specs.Loop.{expanded}
use Rattle.ffm_model.specs.SfnRuns.{sfn_partition}
use Rattle.sfn_calls.proofs.CodeLemmas.{loop-start, loop-more, loop-whole, loop-fits, script-made}
use Rattle.sfn_calls.proofs.expansion.expand.Goals as goal

pub loop-bit-init : goal.loop-bit-init
loop-bit-init c =
    let e = c.in_ok-push.ensures.items ∙ ap₂ (λ (l : List Instruction) (x : Instruction). l ++ x ∷ []) c.new-code.ensures.items c.call_line.ensures in
    record {
      code = loop-start c.args.system.now c.args.partition c.as_slice-functions.result.now c.ram_base-base.result _ c.push.new.self.items e;
      few = omega (arith, ap (λ (l : List Instruction). length l) e);
    }

pub loop-bit-preserved : goal.loop-bit-preserved
loop-bit-preserved c = record {
  code = loop-more c.args.system.now c.args.partition c.as_slice-functions.result.now c.ram_base-base.result c.loop-bit.bit _ c.loop-bit.code.items c.push_service.new.code.items c.loop-bit.auto.bit
      c.loop-bit.invariant.code c.in_ok-push_service.ensures.code;
  few = omega (arith, c.in_ok-push_service.ensures.few);
}

pub plain-requires : goal.plain-requires
plain-requires c =
    loop-fits c.args.system.now c.args.partition c.as_slice-functions.result.now c.loop-bit.code.items
    (subst (λ (fs : List SfnFunction). AllByRecursion (λ f. IsFunction f.instructions) fs) (sym c.as_slice-functions.ensures) c.script.invariant.fit)
    (loop-whole c.args.system.now c.args.partition c.as_slice-functions.result.now c.ram_base-base.result c.signals_of-mask.result c.loop-bit.bit c.loop-bit.code.items (omega arith) c.ram_base-base.ensures
    c.signals_of-mask.ensures c.loop-bit.invariant.code)

pub returns : goal.returns
returns c =
    script-made c.plain.result c.loop-bit.code.items (expanded (sfn_partition c.args.system.now c.args.partition c.args.script.now))
    (loop-whole c.args.system.now c.args.partition c.as_slice-functions.result.now c.ram_base-base.result c.signals_of-mask.result c.loop-bit.bit c.loop-bit.code.items (omega arith) c.ram_base-base.ensures
    c.signals_of-mask.ensures c.loop-bit.invariant.code
    ∙ ap (λ (fs : List SfnFunction). expanded (sfn_partition c.args.system.now c.args.partition fs)) (c.as_slice-functions.ensures ∙ c.script.view_is)) c.plain.ensures
