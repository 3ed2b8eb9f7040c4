use Rattle.std.proofs.Common.{set}
use Rattle.std.proofs.Math.ListN.{length-set}
use Rattle.spm_tables.specs.Queues.{ends_at, joined, joined_ends}
use Rattle.spm_tables.proofs.BoxLemmas.{lent-changed}
use Rattle.spm_tables.proofs.QueueMessages.{keeps-take, others-wait}
use Rattle.spm_tables.proofs.QueueUpdates.{length-joined}
use Rattle.spm_tables.proofs.queues.MessageQueues.enqueue.Goals as goal

pub invariant_of-self : goal.invariant_of-self
invariant_of-self c =
    let q = c.self.inside in
    let p = c.deref_mut-messages.result.now in
    let was = rw (← c.deref_mut-messages.ensures.value) at c.self.invariant in
    let v = c.args.message.service in
    let i = c.in-Ok.slot.index in
    let last = (ends_at c.as_mut_slice-in-Ok.result.now v).last in
    let links = lent-changed q.links.items (λ ls. joined ls last i) c.as_mut_slice.result.now c.join.new.links (λ ls. length-joined ls last i) c.as_mut_slice.ensures.value c.as_mut_slice.ensures.len c.join.ensures.links in
    let ends = lent-changed q.ends.items (λ es. set es v (joined_ends (ends_at es v) i)) c.as_mut_slice-in-Ok.result.now c.join.new.ends (λ es. length-set es v (joined_ends (ends_at es v) i))
    c.as_mut_slice-in-Ok.ensures.value c.as_mut_slice-in-Ok.ensures.len c.join.ensures.ends in
    rw (c.in-Ok.ensures.takes.after, links, ends, c.as_mut_slice-in-Ok.ensures.value)
    (keeps-take p q.links.items.items q.ends.items.items c.in-Ok.slot c.args.message c.law.ensures was c.in-Ok.ensures.takes.lowest c.requires.undelivered (rw (← c.self.view_is) at c.requires.service))

pub returns-clause-others : goal.returns-clause-others
returns-clause-others c =
    let q = c.self.inside in
    let p = c.deref_mut-messages.result.now in
    let was = rw (← c.deref_mut-messages.ensures.value) at c.self.invariant in
    rw (c.in-Ok.ensures.takes.after, ← c.self.view_is, ← c.deref_mut-messages.ensures.value)
    (others-wait p _ q.links.items.items _ q.ends.items.items c.args.message.service _ was
    (keeps-take p q.links.items.items q.ends.items.items c.in-Ok.slot c.args.message c.law.ensures was c.in-Ok.ensures.takes.lowest c.requires.undelivered (rw (← c.self.view_is) at c.requires.service)))
