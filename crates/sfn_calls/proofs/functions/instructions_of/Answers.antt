use Rattle.std.proofs.Common.{◌≡◌, ◌<◌, ◌≤◌, length, get_or, sym, ◌∙◌}
use Rattle.ffm_model.specs.SfnScripts.{IsFunctionLine}
use Rattle.script_asm.specs.Views.{lines_view}
use Rattle.script_asm.proofs.MadeLemmas.{made-next-at, made-wrong-at, made-start, fitting-next, fitting-end, finished, fitting-start}
use Rattle.sfn_calls.specs.FunctionLines.{made_of}
use Rattle.sfn_calls.proofs.FunctionLemmas.{listed-width, fitting-few, numbered-made, numbered-wrong}
use Rattle.sfn_calls.proofs.functions.instructions_of.Goals as goal

pub loop-i-init : goal.loop-i-init
loop-i-init c = record {
  rest = made-start (made_of (lines_view c.args.lines.now.lines.items)) _ _ c.new-instructions.ensures.items;
  fitting = rw c.new-instructions.ensures.items (fitting-start IsFunctionLine _);
}

pub loop-i-preserved : goal.loop-i-preserved
loop-i-preserved c =
    let ls = c.args.lines.now.lines.items in
    let inside : c.loop-i.i < length ls = rw c.deref-line-items.ensures.value at c.loop-i-test.true in
    let is : c.line-item.result ≡ get_or ls c.loop-i.i c.line-item.result = rw c.deref-line-items.ensures.value at c.line-item.is in
    rw c.in_ok-add.ensures (record {
      rest = made-next-at (made_of (lines_view ls)) ls _ _ _ _ inside is c.in-Some.ensures.gives ∙ c.loop-i.invariant.rest;
      fitting = fitting-next IsFunctionLine ls _ _ _ _ inside is (listed-width (lines_view ls) _ _ _ c.in-Some.ensures.gives) c.in-Some.ensures.fits c.loop-i.invariant.fitting;
    })

pub returns-in_default-clause-gives : goal.returns-in_default-clause-gives
returns-in_default-clause-gives c =
    let ls = c.args.lines.now.lines.items in
    let inside : c.loop-i.i < length ls = rw c.deref-line-items.ensures.value at c.loop-i-test.true in
    let is : c.line-item.result ≡ get_or ls c.loop-i.i c.line-item.result = rw c.deref-line-items.ensures.value at c.line-item.is in
    numbered-wrong c.args.first (lines_view ls) _ (sym c.loop-i.invariant.rest ∙ made-wrong-at (made_of (lines_view ls)) ls _ _ _ inside is c.in_default.ensures.gives)

pub returns : goal.returns
returns c =
    let ls = c.args.lines.now.lines.items in
    let past : length ls ≤ c.loop-i.i = rw c.deref-line-items.ensures.value at c.loop-i-test.false in
    record {
      gives = numbered-made c.args.first (lines_view ls) _ (sym c.loop-i.invariant.rest ∙ finished (made_of (lines_view ls)) ls _ _ past);
      function = fitting-end IsFunctionLine ls _ _ past c.loop-i.invariant.fitting;
      short = fitting-few ls _ _ c.loop-i.invariant.fitting;
    }
