use Rattle.spm_tables.proofs.QueueMessages.{keeps-vectors, all-wait}
use Rattle.spm_tables.proofs.queues.MessageQueues.set_vectors.Goals as goal

pub invariant_of-self : goal.invariant_of-self
invariant_of-self c =
    let q = c.self.inside in
    let was = rw (← c.deref_mut-messages.ensures.value) at c.self.invariant in
    rw c.set.ensures (keeps-vectors c.deref_mut-messages.result.now q.links.items.items q.ends.items.items c.args.slot c.live_item-message.result c.args.vectors c.law.ensures was c.live_item-message.ensures)

pub returns-clause-all : goal.returns-clause-all
returns-clause-all c =
    let q = c.self.inside in
    let p = c.deref_mut-messages.result.now in
    let was = rw (← c.deref_mut-messages.ensures.value) at c.self.invariant in
    rw (c.set.ensures, ← c.self.view_is, ← c.deref_mut-messages.ensures.value)
    (all-wait p _ q.links.items.items q.links.items.items q.ends.items.items was
    (keeps-vectors p q.links.items.items q.ends.items.items c.args.slot c.live_item-message.result c.args.vectors c.law.ensures was c.live_item-message.ensures))
