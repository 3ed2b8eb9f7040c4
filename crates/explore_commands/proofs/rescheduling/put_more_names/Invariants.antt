use Rattle.std.proofs.Common.{◌≡◌, ◌++◌, codes, drop}
use Rattle.std.specs.List.{flat_map}
use Rattle.explore_commands.specs.Rescheduling.{named}
use Rattle.explore_commands.proofs.rescheduling.put_more_names.Given as goal

-- the names so far, and then the others
abbrev pub invariant-loop-actor : goal.invariant-loop-actor
invariant-loop-actor l = l.text.items ++ flat_map (named l.system (codes ", ")) (drop l.actor-index l.turns) ≡ l.initial.text.items ++ flat_map (named l.system (codes ", ")) l.turns
