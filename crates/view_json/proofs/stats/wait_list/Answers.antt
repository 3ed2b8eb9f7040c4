use Rattle.std.proofs.Common.{◌++◌, ◌∙◌, [], ap, map}
use Rattle.std.specs.List.{cons_option}
use Rattle.serde_json.specs.View.{view}
use Rattle.machine_calls.proofs.Leaving.{filter_map_more}
use Rattle.view_json.specs.StatsJson.{wait_of}
use Rattle.view_json.proofs.stats.wait_list.Goals as goal

pub loop-actor-preserved : goal.loop-actor-preserved
loop-actor-preserved c =
    filter_map_more (wait_of c.args.system.now c.args.waits.now) c.args.all.now c.loop-actor.actor-index _ [] (map view c.loop-actor.list.items) _ c.loop-actor-test.true c.loop-actor.invariant
    (c.in_ok-add_some.ensures ∙ ap (λ o. map view c.loop-actor.list.items ++ cons_option o []) c.in_ok-wait.ensures)
