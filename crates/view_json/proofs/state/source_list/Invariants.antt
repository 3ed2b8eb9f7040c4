use Rattle.std.proofs.Common.{◌≡◌, ◌++◌, drop, map}
use Rattle.std.specs.List.{enumerate_from}
use Rattle.machine_calls.specs.Machine.{spm_of_objects}
use Rattle.serde_json.specs.View.{view}
use Rattle.view_json.specs.StateJson.{source_json}
use Rattle.view_json.proofs.state.source_list.Given as goal

-- the values so far, and then those of the other interrupts
abbrev pub invariant-loop-place : goal.invariant-loop-place
invariant-loop-place l =
    map view l.list.items ++ map (source_json l.system (spm_of_objects l.objects)) (enumerate_from l.place (drop l.place l.sources))
    ≡ map (source_json l.system (spm_of_objects l.objects)) (enumerate_from 0 l.sources)
