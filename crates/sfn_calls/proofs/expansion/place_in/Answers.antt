use Rattle.std.proofs.Common.{sym, ◌∙◌, arith}
use Rattle.ffm_model.specs.declared.script.Instruction.TheVariants.{Change}
use Rattle.ffm_model.specs.declared.script.Operation.TheVariants.{Set}
use Rattle.ffm_model.specs.declared.script.Operand.TheVariants.{Register}
use Rattle.ffm_model.specs.declared.script.SfnInstruction.TheVariants.{Plain}
use Rattle.sfn_calls.proofs.CodeLemmas.{place-start, place-more, place-past}
use Rattle.sfn_calls.proofs.expansion.place_in.Goals as goal

pub loop-i-init : goal.loop-i-init
loop-i-init c = record { place = place-start c.args.lines.now; few = omega arith; before = omega arith }

pub loop-i-preserved : goal.loop-i-preserved
loop-i-preserved c =
    let more = place-more c.args.lines.now c.loop-i.i (Plain (Change Set 0 (Register 0))) c.loop-i-test.true in
    record { place = omega (arith, c.width-place.ensures.width, more); few = omega arith; before = omega arith }

pub returns-clause-place : goal.returns-clause-place
returns-clause-place c =
    let lines = c.args.lines.now in
    c.loop-i.invariant.place ∙ (place-past lines c.loop-i.i (omega arith) ∙ sym (place-past lines c.args.t (omega arith)))
