use Rattle.script_asm.proofs.LabelLemmas.{Labels}
use Rattle.script_asm.proofs.labels.labels_of.Given as goal

abbrev pub invariant-loop-i : goal.invariant-loop-i
invariant-loop-i l = Labels l.labels l.lines l.i l.place
