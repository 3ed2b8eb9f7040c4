use Rattle.std.proofs.Common.{◌≡◌, drop}
use Rattle.script_asm.specs.Views.{lines_view}
use Rattle.view_scripts.specs.ScriptLines.{line_from}
use Rattle.view_scripts.proofs.lines.line_of_place.Given as goal

-- it is among the other lines
abbrev pub invariant-loop-number : goal.invariant-loop-number
invariant-loop-number l = line_from l.number l.left (lines_view (drop l.number l.lines)) ≡ line_from 0 l.place (lines_view l.lines)
