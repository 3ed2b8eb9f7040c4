use Rattle.std.proofs.Common.{◌≡◌, ◌≤◌, List}
use Rattle.ffm_model.specs.Held.{Holder, HeldMessage}
use Rattle.ffm_model.specs.HeldPlans.{held_steps}
use Rattle.ffm_model.specs.ScriptRuns.{local_steps, point}
use Rattle.script_engines.specs.Holdings.{holding}
use Rattle.script_engines.proofs.script.run_lines.Given as goal

abbrev pub invariant-loop-left : goal.invariant-loop-left
invariant-loop-left l = record {
  point : local_steps l.script l.left (point l.registers l.place) ≡ local_steps l.script l.initial.left (point l.initial.registers l.initial.place);
  held : (p : Holder) (t : List HeldMessage)
      → held_steps p l.script l.left (holding l.registers l.place t) ≡ held_steps p l.script l.initial.left (holding l.initial.registers l.initial.place t);
  fewer : l.left ≤ l.initial.left;
}

abbrev pub decreases-loop-left : goal.decreases-loop-left
decreases-loop-left l = l.left
