use Rattle.std.proofs.Common.{◌≡◌, map, take}
use Rattle.machine_calls.specs.Machine.{spm_of_objects}
use Rattle.view_diagram.specs.Gathering.{placed}
use Rattle.view_diagram.proofs.gathering.placed_arrows.Given as goal

abbrev pub invariant-loop-arrow : goal.invariant-loop-arrow
invariant-loop-arrow l = l.arrows.items ≡ map (placed l.place (spm_of_objects l.objects) l.last.places.items) (take l.arrow-index l.found)
