use Rattle.std.proofs.Common.{take}
use Rattle.region_map.specs.Directories.{TellsFirst}
use Rattle.region_map.proofs.directory.places_of.Given as goal

abbrev pub invariant-loop-place : goal.invariant-loop-place
invariant-loop-place l = TellsFirst l.places (take l.place l.regions)
