use Rattle.std.proofs.Common.{rules, set}
use Rattle.std.proofs.Math.ListN.{length-set}
use Rattle.spm_tables.specs.Queues.{ends_at, link_at, unlinked, unlinked_ends}
use Rattle.spm_tables.proofs.BoxLemmas.{lent-changed}
use Rattle.spm_tables.proofs.MessageLemmas.{oldest-of, oldest-item}
use Rattle.spm_tables.proofs.QueueMessages.{first-is, keeps-oldest, others-wait}
use Rattle.spm_tables.proofs.QueueUpdates.{length-unlinked}
use Rattle.spm_tables.proofs.queues.MessageQueues.deliver.Goals as goal

pub oldest-requires : goal.oldest-requires
oldest-requires c =
    let was = rw (← c.deref_mut-messages.ensures.value) at c.self.invariant in
    rw c.as_slice.ensures.value (first-is c.deref_mut-messages.result.now c.self.inside.links.items.items c.self.inside.ends.items.items c.args.service was)

pub live_item-message-requires : goal.live_item-message-requires
live_item-message-requires c =
    let p = c.deref_mut-messages.result.now in
    rw (oldest-item p c.args.service c.in-Some.slot (oldest-of p c.args.service c.in-Some.slot c.law.ensures c.in-Some.ensures)) (search rules)

pub invariant_of-self : goal.invariant_of-self
invariant_of-self c = rw (← c.deref_mut-messages.ensures.value) at c.self.invariant

pub invariant_of-self-2 : goal.invariant_of-self-2
invariant_of-self-2 c =
    let q = c.self.inside in
    let p = c.deref_mut-messages.result.now in
    let was = rw (← c.deref_mut-messages.ensures.value) at c.self.invariant in
    let v = c.args.service in
    let i = c.in-Some.slot.index in
    let all = c.as_mut_slice.result.now in
    let links = lent-changed q.links.items (λ ls. unlinked ls (link_at ls i)) all c.unlink.new.links (λ ls. length-unlinked ls (link_at ls i)) c.as_mut_slice.ensures.value c.as_mut_slice.ensures.len c.unlink.ensures.links in
    let ends = lent-changed q.ends.items (λ es. set es v (unlinked_ends (ends_at es v) (link_at all i))) c.as_mut_slice-2.result.now c.unlink.new.ends (λ es. length-set es v (unlinked_ends (ends_at es v) (link_at all i)))
    c.as_mut_slice-2.ensures.value c.as_mut_slice-2.ensures.len c.unlink.ensures.ends in
    rw (c.set.ensures, links, ends, c.as_mut_slice.ensures.value)
    (keeps-oldest p q.links.items.items q.ends.items.items v c.in-Some.slot c.live_item-message.result c.law.ensures was (oldest-of p v c.in-Some.slot c.law.ensures c.in-Some.ensures)
    c.live_item-message.ensures)

pub returns-clause-others : goal.returns-clause-others
returns-clause-others c =
    let q = c.self.inside in
    let p = c.deref_mut-messages.result.now in
    let was = rw (← c.deref_mut-messages.ensures.value) at c.self.invariant in
    rw (c.set.ensures, ← c.self.view_is, ← c.deref_mut-messages.ensures.value)
    (others-wait p _ q.links.items.items _ q.ends.items.items c.args.service _ was
    (keeps-oldest p q.links.items.items q.ends.items.items c.args.service c.in-Some.slot c.live_item-message.result c.law.ensures was
    (oldest-of p c.args.service c.in-Some.slot c.law.ensures c.in-Some.ensures) c.live_item-message.ensures))
