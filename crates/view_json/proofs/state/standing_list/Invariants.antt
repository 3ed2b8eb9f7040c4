use Rattle.std.proofs.Common.{◌≡◌, ◌++◌, drop, map}
use Rattle.machine_calls.specs.Machine.{spm_of_objects}
use Rattle.view_json.specs.StateJson.{standing_json}
use Rattle.serde_json.specs.View.{view}
use Rattle.view_json.proofs.state.standing_list.Given as goal

-- the values so far, and then those of the others
abbrev pub invariant-loop-actor : goal.invariant-loop-actor
invariant-loop-actor l = map view l.list.items ++ map (standing_json l.system (spm_of_objects l.objects) l.last) (drop l.actor-index l.all) ≡ map (standing_json l.system (spm_of_objects l.objects) l.last) l.all
