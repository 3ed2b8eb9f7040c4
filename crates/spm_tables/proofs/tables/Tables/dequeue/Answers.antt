use Rattle.std.proofs.Common.{rules, true, ap, sym, refl, ◌∙◌}
use Rattle.spm_tables.specs.Queues.{QueuesView}
use Rattle.spm_tables.proofs.MessageLemmas.{oldest-of, none-oldest, oldest-item, oldest-message, delivered-after, delivered-state, live-put}
use Rattle.spm_tables.proofs.SlotLemmas.{slots-put}
use Rattle.spm_tables.proofs.WordLemmas.{shows-changed}
use Rattle.spm_tables.specs.contracts.tables.Tables.{the_view}
use Rattle.spm_tables.proofs.tables.Tables.dequeue.Goals as goal

pub returns-in_default-clause-oldest : goal.returns-in_default-clause-oldest
returns-in_default-clause-oldest c = rw (← c.self.view_is) (none-oldest c.self.inside.queues.messages c.args.service (sym c.in_default.is ∙ c.deliver.ensures.oldest))

pub returns-clause-found : goal.returns-clause-found
returns-clause-found c =
    let p = c.self.inside.queues.messages in
    rw (← c.self.view_is, oldest-item p c.args.service c.in-Some.slot (oldest-of p c.args.service c.in-Some.slot c.law.ensures c.in-Some.ensures.oldest)) (search rules)

pub returns-clause-oldest : goal.returns-clause-oldest
returns-clause-oldest c =
    let t = c.self.inside in
    rw (← c.self.view_is) (oldest-message (the_view t) c.args.service c.in-Some.slot (oldest-of t.queues.messages c.args.service c.in-Some.slot c.law.ensures c.in-Some.ensures.oldest))

pub returns-clause-state : goal.returns-clause-state
returns-clause-state c =
    let t = c.self.inside in
    let o = oldest-of t.queues.messages c.args.service c.in-Some.slot c.law.ensures c.in-Some.ensures.oldest in
    rw (c.set_waiting.ensures, delivered-after t.queues c.deliver.new.self c.args.service c.in-Some.slot o c.in-Some.ensures.after, ← c.self.view_is)
    (delivered-state (the_view t) c.args.service c.in-Some.slot (o.held).item c.law.ensures o (oldest-item t.queues.messages c.args.service c.in-Some.slot o))

pub returns-clause-live : goal.returns-clause-live
returns-clause-live c =
    let q = c.self.inside.queues in
    let s = c.in-Some.slot in
    let o = oldest-of q.messages c.args.service s c.law.ensures c.in-Some.ensures.oldest in
    rw (delivered-after q c.deliver.new.self c.args.service s o c.in-Some.ensures.after, live-put q.messages s (o.held).item _ (oldest-item q.messages c.args.service s o)) (search rules)

pub invariant_of-self-2 : goal.invariant_of-self-2
invariant_of-self-2 c =
    let t = c.self.inside in
    let v = c.args.service in
    let s = c.in-Some.slot in
    let o = oldest-of t.queues.messages v s c.law.ensures c.in-Some.ensures.oldest in
    let after = delivered-after t.queues c.deliver.new.self v s o c.in-Some.ensures.after in
    rw c.set_waiting.ensures (
      shows-changed t.board t.queues c.deliver.new.self v c.has_waiting-waits.result c.self.invariant.0 (ap (λ (q : QueuesView). q.services) after)
          c.deliver.ensures.others c.has_waiting-waits.ensures.waits c.has_waiting-waits.ensures.there,
      rw after (slots-put t.connections.value t.queues.messages s (o.held).item (record (o.held).item { delivered = true }) (oldest-item t.queues.messages v s o) refl refl c.self.invariant.1),
    )

pub returns-clause-shape : goal.returns-clause-shape
returns-clause-shape c =
    let q = c.self.inside.queues in
    let o = oldest-of q.messages c.args.service c.in-Some.slot c.law.ensures c.in-Some.ensures.oldest in
    rw (c.set_waiting.ensures, delivered-after q c.deliver.new.self c.args.service c.in-Some.slot o c.in-Some.ensures.after, ← c.self.view_is) refl
