use Rattle.std.proofs.Common.{◌≡◌, ◌++◌, drop, map}
use Rattle.machine_calls.specs.Machine.{spm_of_objects}
use Rattle.view_json.specs.StateJson.{wait_json}
use Rattle.serde_json.specs.View.{view}
use Rattle.view_json.proofs.stall.wait_list.Given as goal

-- the values so far, and then those of the others
abbrev pub invariant-loop-actor : goal.invariant-loop-actor
invariant-loop-actor l = map view l.list.items ++ map (wait_json l.system (spm_of_objects l.objects)) (drop l.actor-index l.stopped) ≡ map (wait_json l.system (spm_of_objects l.objects)) l.stopped
