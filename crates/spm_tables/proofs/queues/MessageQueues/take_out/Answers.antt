use Rattle.std.proofs.Common.{List, set}
use Rattle.std.proofs.Math.ListN.{length-set}
use Rattle.std.specs.Prelude.{if◌then◌else◌}
use Rattle.spm_tables.specs.declared.links.Ends.{Ends}
use Rattle.spm_tables.specs.Queues.{ends_at, link_at, unlinked, unlinked_ends}
use Rattle.spm_tables.proofs.BoxLemmas.{lent-changed, length-unless}
use Rattle.spm_tables.proofs.QueueMessages.{keeps-out, others-left}
use Rattle.spm_tables.proofs.QueueUpdates.{length-unlinked}
use Rattle.spm_tables.proofs.queues.MessageQueues.take_out.Goals as goal

pub invariant_of-self : goal.invariant_of-self
invariant_of-self c =
    let q = c.self.inside in
    let p = c.deref_mut-messages.result.now in
    let was = rw (← c.deref_mut-messages.ensures.value) at c.self.invariant in
    let m = c.put_back-message.result in
    let i = c.args.slot.index in
    let all = c.as_mut_slice.result.now in
    let links = lent-changed q.links.items (λ ls. if m.delivered then ls else unlinked ls (link_at ls i)) all c.leave.new.links (length-unless (λ ls. unlinked ls (link_at ls i)) (λ ls. length-unlinked ls (link_at ls i)) m.delivered)
    c.as_mut_slice.ensures.value c.as_mut_slice.ensures.len c.leave.ensures.links in
    let cut : List Ends → List Ends = λ es. set es m.service (unlinked_ends (ends_at es m.service) (link_at all i)) in
    let ends = lent-changed q.ends.items (λ es. if m.delivered then es else cut es) c.as_mut_slice-2.result.now c.leave.new.ends (length-unless cut (λ es. length-set es m.service (unlinked_ends (ends_at es m.service) (link_at all i))) m.delivered)
    c.as_mut_slice-2.ensures.value c.as_mut_slice-2.ensures.len c.leave.ensures.ends in
    rw (c.put_back-message.ensures.rest, links, ends, c.as_mut_slice.ensures.value)
    (keeps-out p q.links.items.items q.ends.items.items c.args.slot m c.law.ensures was c.put_back-message.ensures.item)

pub returns-clause-others : goal.returns-clause-others
returns-clause-others c =
    let q = c.self.inside in
    let p = c.deref_mut-messages.result.now in
    let was = rw (← c.deref_mut-messages.ensures.value) at c.self.invariant in
    let m = c.put_back-message.result in
    rw (c.put_back-message.ensures.rest, ← c.self.view_is, ← c.deref_mut-messages.ensures.value)
    (others-left p _ q.links.items.items _ q.ends.items.items m.service _ m.delivered was
    (keeps-out p q.links.items.items q.ends.items.items c.args.slot m c.law.ensures was c.put_back-message.ensures.item))
