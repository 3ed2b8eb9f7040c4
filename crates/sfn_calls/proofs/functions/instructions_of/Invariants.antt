use Rattle.std.proofs.Common.{◌≡◌, drop, take}
use Rattle.ffm_model.specs.SfnScripts.{IsFunctionLine}
use Rattle.script_asm.specs.Lines.{made_from}
use Rattle.script_asm.specs.Views.{lines_view}
use Rattle.script_asm.proofs.MadeLemmas.{with_made, Fitting}
use Rattle.sfn_calls.specs.FunctionLines.{made_of}
use Rattle.sfn_calls.proofs.functions.instructions_of.Given as goal

abbrev pub invariant-loop-i : goal.invariant-loop-i
invariant-loop-i l = record {
  rest : with_made l.instructions.items (made_from (made_of (lines_view l.lines.lines.items)) l.i (lines_view (drop l.i l.lines.lines.items)))
      ≡ made_from (made_of (lines_view l.lines.lines.items)) 0 (lines_view l.lines.lines.items);
  fitting : Fitting IsFunctionLine (lines_view l.lines.lines.items) (lines_view (take l.i l.lines.lines.items)) l.instructions.items;
}
