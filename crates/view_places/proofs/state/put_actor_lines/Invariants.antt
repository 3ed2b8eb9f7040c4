use Rattle.std.proofs.Common.{◌≡◌, ◌++◌, ◌-◌}
use Rattle.std.specs.List.{flat_map, range_with_len}
use Rattle.machine_calls.specs.Machine.{spm_of_objects}
use Rattle.view_places.specs.StateText.{actor_line}
use Rattle.view_places.proofs.state.put_actor_lines.Given as goal

-- the lines so far, and then those of the other actors
abbrev pub invariant-loop-actor : goal.invariant-loop-actor
invariant-loop-actor l =
    l.text.items ++ flat_map (actor_line l.system (spm_of_objects l.objects) l.last) (range_with_len l.actor (l.actor-end - l.actor))
    ≡ l.initial.text.items ++ flat_map (actor_line l.system (spm_of_objects l.objects) l.last) (range_with_len 0 l.actor-end)
