use Rattle.std.proofs.Common.{◌≡◌, ℕ, List, take, map}
use Rattle.region_map.specs.Seen.{seen}
use Rattle.manifest_compile.specs.Owners.{owner_of}
use Rattle.manifest_compile.proofs.OwnerLemmas.{last_owner}
use Rattle.manifest_compile.proofs.dependencies.owners.Given as goal

-- the map has the services so far
abbrev pub invariant-loop-at : goal.invariant-loop-at
invariant-loop-at l = (name : List ℕ) → owner_of l.owners name ≡ last_owner name (take l.at-index (map seen l.at-items))
