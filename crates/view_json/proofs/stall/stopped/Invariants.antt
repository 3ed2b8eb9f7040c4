use Rattle.std.proofs.Common.{◌≡◌, ◌++◌, drop, filter}
use Rattle.machine_calls.specs.Machine.{spm_of_objects}
use Rattle.view_json.specs.StateJson.{is_stopped}
use Rattle.view_json.proofs.stall.stopped.Given as goal

-- the actors so far, and then those among the others
abbrev pub invariant-loop-actor : goal.invariant-loop-actor
invariant-loop-actor l = l.found.items ++ filter (is_stopped (spm_of_objects l.objects)) (drop l.actor-index l.actors) ≡ filter (is_stopped (spm_of_objects l.objects)) l.actors
