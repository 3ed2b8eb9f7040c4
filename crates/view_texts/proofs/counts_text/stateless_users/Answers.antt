use Rattle.view_texts.specs.CountsText.{uses_stateless}
use Rattle.view_texts.proofs.Ranges.{filter_step}
use Rattle.view_texts.proofs.counts_text.stateless_users.Goals as goal

pub loop-actor-preserved : goal.loop-actor-preserved
loop-actor-preserved c = filter_step (uses_stateless c.args.system.now) c.loop-actor.actor _ _ _ _ _ c.loop-actor-test.true c.uses_stateless.ensures c.in_ok-add_where.ensures c.loop-actor.invariant
