use Rattle.std.proofs.Common.{◌≡◌, ◌++◌, drop, filter}
use Rattle.machine_calls.specs.Machine.{spm_of_objects}
use Rattle.view_places.specs.Waits.{waits_for}
use Rattle.view_json.proofs.stall.awaited.Given as goal

-- the actors so far, and then those among the others
abbrev pub invariant-loop-other : goal.invariant-loop-other
invariant-loop-other l = l.found.items ++ filter (waits_for l.system (spm_of_objects l.objects) l.actor) (drop l.other-index l.others) ≡ filter (waits_for l.system (spm_of_objects l.objects) l.actor) l.others
