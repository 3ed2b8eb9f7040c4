use Rattle.std.proofs.Common.{◌≡◌, ◌++◌, map, drop}
use Rattle.ffm_model.specs.Compiled.{services_from}
use Rattle.region_map.specs.Seen.{seen}
use Rattle.manifest_compile.proofs.systems.services_from.Given as goal

-- the services so far, and then the others
abbrev pub invariant-loop-at : goal.invariant-loop-at
invariant-loop-at l = l.services.items ++ services_from l.taken.items (map seen (drop l.at-index l.items)) ≡ services_from l.fn.taken.items (map seen l.items)
