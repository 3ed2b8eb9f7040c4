use Rattle.std.proofs.Common.{sym}
use Rattle.view_json.specs.StatsJson.{made_call}
use Rattle.view_json.proofs.Ranges.{value_step}
use Rattle.view_json.proofs.stats.call_list.Goals as goal

pub loop-call-preserved : goal.loop-call-preserved
loop-call-preserved c = value_step (made_call c.args.calls.now c.args.actor) c.loop-call.call _ _ _ _ _ c.loop-call-test.true (sym c.in_ok-made.ensures) c.in_ok-add_some.ensures c.loop-call.invariant
