use Rattle.std.proofs.Common.{◌≡◌, ◌++◌, drop}
use Rattle.std.specs.Prelude.{map}
use Rattle.ffm_model.specs.Layout.{located_in}
use Rattle.region_map.specs.Seen.{seen}
use Rattle.region_map.proofs.at.add.Given as goal

abbrev pub invariant-loop-i : goal.invariant-loop-i
invariant-loop-i g l = map seen l.found.items ++ located_in l.manifest l.i (drop l.i l.items) ≡ map seen l.initial.found.items ++ located_in l.manifest 0 l.items
