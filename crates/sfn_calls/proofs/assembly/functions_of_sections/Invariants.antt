use Rattle.std.proofs.Common.{◌≡◌, ◌≤◌, [], drop, length}
use Rattle.ffm_model.specs.declared.constants.TheConstants.{MAX_SCRIPT_LINES}
use Rattle.ffm_model.specs.SfnScripts.{IsSfnScript}
use Rattle.script_asm.specs.Views.{lines_view}
use Rattle.sfn_calls.specs.FunctionLines.{functions_below}
use Rattle.sfn_calls.specs.Sections.{sections}
use Rattle.sfn_calls.proofs.assembly.functions_of_sections.Given as goal

abbrev pub invariant-loop-at : goal.invariant-loop-at
invariant-loop-at l = record {
  rest : functions_below l.system l.partition l.functions.items (sections l.at (lines_view (drop l.at l.lines))) ≡ functions_below l.system l.partition [] (sections 0 (lines_view l.lines));
  kept : length l.lines ≤ MAX_SCRIPT_LINES → IsSfnScript l.functions.items;
}
