use Rattle.std.proofs.Common.{◌≡◌, drop}
use Rattle.std.specs.List.{enumerate_from, list_any}
use Rattle.machine_calls.specs.Machine.{spm_of_objects}
use Rattle.view_places.specs.Waits.{is_service_awaited}
use Rattle.view_places.proofs.waits.is_service_awaited.Given as goal

-- the others decide
abbrev pub invariant-loop-place : goal.invariant-loop-place
invariant-loop-place l =
    list_any (is_service_awaited l.system (spm_of_objects l.objects) l.partition l.mask l.other) (enumerate_from l.place (drop l.place l.system.services))
    ≡ list_any (is_service_awaited l.system (spm_of_objects l.objects) l.partition l.mask l.other) (enumerate_from 0 l.system.services)
