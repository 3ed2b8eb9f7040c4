use Rattle.std.proofs.Common.{◌≡◌, ◌+◌, drop, length}
use Rattle.script_asm.specs.Views.{lines_view}
use Rattle.sfn_calls.specs.Sections.{before}
use Rattle.sfn_calls.proofs.sections.count_before.Given as goal

abbrev pub invariant-loop-i : goal.invariant-loop-i
invariant-loop-i l = length (before (lines_view l.lines)) ≡ l.i + length (before (lines_view (drop l.i l.lines)))
