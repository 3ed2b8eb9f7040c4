use Rattle.ffm_model.specs.State.{vectors_put}
use Rattle.machine_calls.proofs.Changed.{map_step}
use Rattle.machine_calls.proofs.messages.put_all_vectors.Goals as goal

pub loop-message-preserved : goal.loop-message-preserved
loop-message-preserved c =
    map_step (vectors_put c.args.handle c.args.vectors) c.args.messages.now c.loop-message.messages c.loop-message.message-index _ _ c.loop-message-test.true c.loop-message.auto.messages c.loop-message.invariant c.put_vectors.ensures
