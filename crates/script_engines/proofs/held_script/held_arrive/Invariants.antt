use Rattle.std.proofs.Common.{◌≡◌}
use Rattle.ffm_model.specs.HeldPlans.{held_arrived, held_steps}
use Rattle.script_engines.specs.Holdings.{holding}
use Rattle.script_engines.proofs.held_script.held_arrive.Given as goal

abbrev pub invariant-loop-place : goal.invariant-loop-place
invariant-loop-place l = record {
  holder : l.held.holder ≡ l.initial.held.holder;
  way : held_steps l.initial.held.holder l.script l.left (holding l.registers l.place l.held.table)
      ≡ held_arrived l.initial.held.holder l.script (holding l.initial.registers l.initial.place l.initial.held.table);
}

abbrev pub decreases-loop-place : goal.decreases-loop-place
decreases-loop-place l = l.left
