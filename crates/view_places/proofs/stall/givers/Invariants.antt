use Rattle.std.proofs.Common.{◌≡◌, ◌++◌, ◌-◌, filter}
use Rattle.std.specs.List.{range_with_len}
use Rattle.machine_calls.specs.Machine.{spm_of_objects}
use Rattle.view_places.specs.Waits.{could_give}
use Rattle.view_places.proofs.stall.givers.Given as goal

-- the actors so far, and then those among the others
abbrev pub invariant-loop-actor : goal.invariant-loop-actor
invariant-loop-actor l =
    l.found.items ++ filter (could_give l.system (spm_of_objects l.objects) l.partition l.signal) (range_with_len l.actor (l.actor-end - l.actor))
    ≡ filter (could_give l.system (spm_of_objects l.objects) l.partition l.signal) (range_with_len 0 l.actor-end)
