use Rattle.std.proofs.Common.{◌≡◌, ◌++◌, drop}
use Rattle.std.specs.List.{flat_map, enumerate_from}
use Rattle.ffm_model.specs.Listing.{partition_lines}
use Rattle.system_texts.proofs.lines.append_partitions.Given as goal

-- the lines so far, and then those of the other partitions
abbrev pub invariant-loop-place : goal.invariant-loop-place
invariant-loop-place l = l.text.items ++ flat_map (partition_lines l.system) (enumerate_from l.place (drop l.place l.system.partitions)) ≡ l.initial.text.items ++ flat_map (partition_lines l.system) (enumerate_from 0 l.system.partitions)
