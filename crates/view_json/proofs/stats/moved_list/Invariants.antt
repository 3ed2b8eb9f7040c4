use Rattle.std.proofs.Common.{◌≡◌, ◌++◌, drop, map}
use Rattle.view_json.specs.StatsJson.{moved_json}
use Rattle.serde_json.specs.View.{view}
use Rattle.view_json.proofs.stats.moved_list.Given as goal

-- the values so far, and then those of the others
abbrev pub invariant-loop-moved : goal.invariant-loop-moved
invariant-loop-moved l = map view l.list.items ++ map (moved_json l.system) (drop l.moved-index l.all_moved) ≡ map (moved_json l.system) l.all_moved
