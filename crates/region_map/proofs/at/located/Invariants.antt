use Rattle.std.proofs.Common.{◌≡◌, ◌++◌, drop}
use Rattle.std.specs.Prelude.{map}
use Rattle.ffm_model.specs.Layout.{located_from}
use Rattle.region_map.specs.Seen.{seen}
use Rattle.region_map.proofs.at.located.Given as goal

abbrev pub invariant-loop-k : goal.invariant-loop-k
invariant-loop-k g l = map seen l.found.items ++ located_from g.K.ItemList.items l.k (drop l.k l.manifests) ≡ located_from g.K.ItemList.items 0 l.manifests
