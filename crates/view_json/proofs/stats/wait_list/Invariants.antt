use Rattle.std.proofs.Common.{◌≡◌, map, take}
use Rattle.std.specs.List.{filter_map}
use Rattle.serde_json.specs.View.{view}
use Rattle.view_json.specs.StatsJson.{wait_of}
use Rattle.view_json.proofs.stats.wait_list.Given as goal

-- the waits of the actors so far
abbrev pub invariant-loop-actor : goal.invariant-loop-actor
invariant-loop-actor l = map view l.list.items ≡ filter_map (wait_of l.system l.waits) (take l.actor-index l.all)
