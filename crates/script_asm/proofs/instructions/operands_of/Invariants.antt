use Rattle.std.proofs.Common.{◌≡◌, ◌-◌, drop, take, map, replicate, length}
use Rattle.ffm_model.specs.declared.script.Operand.TheVariants.{Number}
use Rattle.script_asm.specs.Lines.{operands_of}
use Rattle.std.specs.List.{AllByRecursion}
use Rattle.ffm_model.specs.Scripts.{IsOperand}
use Rattle.script_asm.proofs.SlotLemmas.{with_front}
use Rattle.script_asm.proofs.instructions.operands_of.Given as goal

abbrev pub invariant-loop-i : goal.invariant-loop-i
invariant-loop-i g l = record {
  long : length l.operands ≡ g.row.N;
  each : AllByRecursion IsOperand l.operands;
  unused : drop l.i l.operands ≡ replicate (g.row.N - l.i) (Number 0);
  rest : with_front (take l.i l.operands) (operands_of (map (λ w. w.now) (drop l.i l.words))) ≡ operands_of (map (λ w. w.now) l.words);
}
