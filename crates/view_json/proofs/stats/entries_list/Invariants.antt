use Rattle.std.proofs.Common.{◌≡◌, ◌++◌, drop, map}
use Rattle.view_json.specs.StatsJson.{entries_json}
use Rattle.serde_json.specs.View.{view}
use Rattle.view_json.proofs.stats.entries_list.Given as goal

-- the values so far, and then those of the others
abbrev pub invariant-loop-actor : goal.invariant-loop-actor
invariant-loop-actor l = map view l.list.items ++ map (entries_json l.system l.counts) (drop l.actor-index l.all) ≡ map (entries_json l.system l.counts) l.all
