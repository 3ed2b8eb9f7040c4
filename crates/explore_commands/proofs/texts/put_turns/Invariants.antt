use Rattle.std.proofs.Common.{◌≡◌, ◌++◌, drop}
use Rattle.std.specs.List.{flat_map}
use Rattle.explore_commands.specs.Texts.{turn_text}
use Rattle.explore_commands.proofs.texts.put_turns.Given as goal

-- the turns so far, and then the others
abbrev pub invariant-loop-actor : goal.invariant-loop-actor
invariant-loop-actor l = l.text.items ++ flat_map (turn_text l.system) (drop l.actor-index l.turns) ≡ l.initial.text.items ++ flat_map (turn_text l.system) l.turns
