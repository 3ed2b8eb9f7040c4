use Rattle.std.proofs.Common.{◌≡◌, drop, take}
use Rattle.ffm_model.specs.Scripts.{FitsIn}
use Rattle.script_asm.specs.Lines.{made_from, made_of, assembled_lines}
use Rattle.script_asm.specs.Views.{lines_view}
use Rattle.script_asm.proofs.MadeLemmas.{with_made, Fitting}
use Rattle.script_asm.proofs.scripts.instructions_of.Given as goal

abbrev pub invariant-loop-i : goal.invariant-loop-i
invariant-loop-i l = record {
  rest : with_made l.instructions.items (made_from (made_of l.kind (lines_view l.lines.lines.items)) l.i (lines_view (drop l.i l.lines.lines.items))) ≡ assembled_lines l.kind (lines_view l.lines.lines.items);
  fitting : Fitting FitsIn (lines_view l.lines.lines.items) (lines_view (take l.i l.lines.lines.items)) l.instructions.items;
}
