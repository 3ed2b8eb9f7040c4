use Rattle.std.proofs.Common.{◌≡◌, ◌++◌, take}
use Rattle.std.specs.List.{filter_map}
use Rattle.machine_calls.specs.Machine.{spm_of_objects}
use Rattle.view_diagram.specs.Arrows.{release_arrow}
use Rattle.view_diagram.proofs.arrows.push_releases.Given as goal

abbrev pub invariant-loop-message : goal.invariant-loop-message
invariant-loop-message l = l.arrows.items ≡ l.fn.arrows.items ++ filter_map (release_arrow l.system (spm_of_objects l.objects) l.partition.0) (take l.message-index l.messages)
