use Rattle.std.proofs.Common.{◌≡◌, ◌++◌, drop}
use Rattle.std.specs.List.{flat_map}
use Rattle.explore_commands.specs.Texts.{outcome_line}
use Rattle.explore_commands.proofs.texts.put_outcomes.Given as goal

-- the lines so far, and then the others
abbrev pub invariant-loop-told : goal.invariant-loop-told
invariant-loop-told l = l.text.items ++ flat_map (outcome_line l.system) (drop l.told-index l.outcomes) ≡ l.initial.text.items ++ flat_map (outcome_line l.system) l.outcomes
