use Rattle.view_texts.specs.CountsText.{call_line_at}
use Rattle.view_texts.proofs.Ranges.{lines_step}
use Rattle.view_texts.proofs.counts_text.put_actor_calls.Goals as goal

pub loop-call-preserved : goal.loop-call-preserved
loop-call-preserved c = lines_step (call_line_at c.args.system.now c.args.calls.now c.args.actor) c.loop-call.call _ _ _ _ c.loop-call-test.true c.in_ok-put_call_at.ensures c.loop-call.invariant
