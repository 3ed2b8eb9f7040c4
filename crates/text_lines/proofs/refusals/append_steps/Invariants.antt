use Rattle.std.proofs.Common.{◌≡◌, ◌++◌, drop}
use Rattle.std.specs.List.{flat_map}
use Rattle.text_lines.specs.Refusals.{step_text}
use Rattle.text_lines.proofs.refusals.append_steps.Given as goal

-- the steps so far, and then the others
abbrev pub invariant-loop-step : goal.invariant-loop-step
invariant-loop-step l = l.line.items ++ flat_map step_text (drop l.step-index l.steps) ≡ l.initial.line.items ++ flat_map step_text l.steps
