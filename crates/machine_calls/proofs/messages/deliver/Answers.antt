use Rattle.std.proofs.Common.{sym, ◌∙◌}
use Rattle.std.proofs.lemmas.List.{set-get_or}
use Rattle.machine_calls.proofs.MessageLemmas.{deliver_here, deliver_none, deliver_past}
use Rattle.machine_calls.proofs.messages.deliver.Goals as goal

pub returns-then-is_undelivered : goal.returns-then-is_undelivered
returns-then-is_undelivered c =
    deliver_here c.args.service c.args.handle c.loop-message.messages c.args.messages.now c.loop-message.message-index _ c.loop-message.invariant.0 c.loop-message-test.true c.loop-message.invariant.1 (sym c.if-is_undelivered.ensures)

pub loop-message-preserved : goal.loop-message-preserved
loop-message-preserved c = (
  set-get_or _ _ _ ∙ c.loop-message.invariant.0,
  deliver_past c.args.service c.args.handle c.loop-message.messages c.args.messages.now c.loop-message.message-index _ c.loop-message.invariant.0 c.loop-message-test.true c.loop-message.invariant.1 (sym c.if-is_undelivered.ensures),
)

pub returns : goal.returns
returns c = deliver_none c.args.service c.args.handle c.loop-message.messages c.args.messages.now c.loop-message.message-index c.loop-message.invariant.0 c.loop-message-test.false c.loop-message.invariant.1
