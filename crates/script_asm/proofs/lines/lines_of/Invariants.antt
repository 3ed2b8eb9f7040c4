use Rattle.std.proofs.Common.{◌≡◌, take}
use Rattle.script_asm.specs.Lines.{lines_of}
use Rattle.script_asm.specs.Views.{lines_view}
use Rattle.script_asm.proofs.lines.lines_of.Given as goal

abbrev pub invariant-loop-text : goal.invariant-loop-text
invariant-loop-text l = lines_view l.lines.items ≡ lines_of (take l.text-index l.texts)
