use Rattle.std.proofs.Common.{◌≡◌, ◌++◌, drop}
use Rattle.std.specs.List.{flat_map}
use Rattle.view_places.specs.WhyText.{condition_line}
use Rattle.view_places.proofs.reasons_text.put_condition_lines.Given as goal

-- the lines so far, and then those of the other conditions
abbrev pub invariant-loop-condition : goal.invariant-loop-condition
invariant-loop-condition l = l.text.items ++ flat_map (condition_line l.otherwise) (drop l.condition-index l.conditions) ≡ l.initial.text.items ++ flat_map (condition_line l.otherwise) l.conditions
