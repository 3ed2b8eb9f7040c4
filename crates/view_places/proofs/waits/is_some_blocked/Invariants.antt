use Rattle.std.proofs.Common.{◌≡◌, ◌-◌}
use Rattle.std.specs.List.{list_any, range_with_len}
use Rattle.machine_calls.specs.Machine.{spm_of_objects}
use Rattle.view_places.specs.Waits.{is_blocked_actor}
use Rattle.view_places.proofs.waits.is_some_blocked.Given as goal

-- the others decide
abbrev pub invariant-loop-actor : goal.invariant-loop-actor
invariant-loop-actor l =
    list_any (is_blocked_actor (spm_of_objects l.objects)) (range_with_len l.actor (l.actor-end - l.actor))
    ≡ list_any (is_blocked_actor (spm_of_objects l.objects)) (range_with_len 0 l.actor-end)
