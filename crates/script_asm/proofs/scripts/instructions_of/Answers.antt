use Rattle.std.proofs.Common.{◌≡◌, ◌<◌, ◌≤◌, length, get_or, sym, ◌∙◌}
use Rattle.ffm_model.specs.Scripts.{FitsIn}
use Rattle.script_asm.specs.Lines.{assembled_lines, made_of}
use Rattle.script_asm.specs.Views.{lines_view}
use Rattle.script_asm.proofs.MadeLemmas.{made-next-at, made-wrong-at, made-start, listed-width, fitting-next, fitting-end, finished, fitting-start}
use Rattle.script_asm.proofs.scripts.instructions_of.Goals as goal

pub loop-i-init : goal.loop-i-init
unfolding assembled_lines
loop-i-init c = record {
  rest = made-start (made_of c.args.kind (lines_view c.args.lines.now.lines.items)) _ _ c.new-instructions.ensures.items;
  fitting = rw c.new-instructions.ensures.items (fitting-start FitsIn _);
}

pub loop-i-preserved : goal.loop-i-preserved
loop-i-preserved c =
    let inside : c.loop-i.i < length c.args.lines.now.lines.items = rw c.deref-line-items.ensures.value at c.loop-i-test.true in
    let is : c.line-item.result ≡ get_or c.args.lines.now.lines.items c.loop-i.i c.line-item.result = rw c.deref-line-items.ensures.value at c.line-item.is in
    rw c.in_ok-add.ensures (record {
      rest = made-next-at (made_of c.args.kind (lines_view c.args.lines.now.lines.items)) c.args.lines.now.lines.items _ _ _ _ inside is c.in-Some.ensures.gives ∙ c.loop-i.invariant.rest;
      fitting = fitting-next FitsIn c.args.lines.now.lines.items _ _ _ _ inside is (listed-width c.args.kind (lines_view c.args.lines.now.lines.items) _ _ _ c.in-Some.ensures.gives) c.in-Some.ensures.fits c.loop-i.invariant.fitting;
    })

pub returns-in_default-clause-gives : goal.returns-in_default-clause-gives
returns-in_default-clause-gives c =
    let inside : c.loop-i.i < length c.args.lines.now.lines.items = rw c.deref-line-items.ensures.value at c.loop-i-test.true in
    let is : c.line-item.result ≡ get_or c.args.lines.now.lines.items c.loop-i.i c.line-item.result = rw c.deref-line-items.ensures.value at c.line-item.is in
    sym c.loop-i.invariant.rest ∙ made-wrong-at (made_of c.args.kind (lines_view c.args.lines.now.lines.items)) c.args.lines.now.lines.items _ _ _ inside is c.in_default.ensures.gives

pub returns : goal.returns
returns c =
    let past : length c.args.lines.now.lines.items ≤ c.loop-i.i = rw c.deref-line-items.ensures.value at c.loop-i-test.false in
    record {
      gives = sym c.loop-i.invariant.rest ∙ finished (made_of c.args.kind (lines_view c.args.lines.now.lines.items)) c.args.lines.now.lines.items _ _ past;
      part = fitting-end FitsIn c.args.lines.now.lines.items _ _ past c.loop-i.invariant.fitting;
    }
