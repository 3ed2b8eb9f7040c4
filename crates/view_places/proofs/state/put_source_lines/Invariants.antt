use Rattle.std.proofs.Common.{◌≡◌, ◌++◌, drop}
use Rattle.std.specs.List.{enumerate_from, flat_map}
use Rattle.machine_calls.specs.Machine.{spm_of_objects}
use Rattle.view_places.specs.StateText.{source_at}
use Rattle.view_places.proofs.state.put_source_lines.Given as goal

-- the lines so far, and then those of the other interrupts
abbrev pub invariant-loop-place : goal.invariant-loop-place
invariant-loop-place l =
    l.text.items ++ flat_map (source_at l.system (spm_of_objects l.objects) l.width) (enumerate_from l.place (drop l.place l.sources))
    ≡ l.initial.text.items ++ flat_map (source_at l.system (spm_of_objects l.objects) l.width) (enumerate_from 0 l.sources)
