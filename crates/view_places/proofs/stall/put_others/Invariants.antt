use Rattle.std.proofs.Common.{◌≡◌, ◌++◌, drop}
use Rattle.std.specs.List.{flat_map}
use Rattle.view_places.specs.StateText.{next_in_circle}
use Rattle.view_places.proofs.stall.put_others.Given as goal

-- the actors so far, and then the others
abbrev pub invariant-loop-actor : goal.invariant-loop-actor
invariant-loop-actor l = l.text.items ++ flat_map (next_in_circle l.system) (drop l.actor-index l.actors) ≡ l.initial.text.items ++ flat_map (next_in_circle l.system) l.actors
