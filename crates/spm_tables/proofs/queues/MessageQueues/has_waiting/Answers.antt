use Rattle.std.proofs.Common.{◌≡◌, sym, ◌∙◌}
use Rattle.spm_tables.specs.Queues.{has_waiting}
use Rattle.spm_tables.proofs.QueueMessages.{waits-first, waits-known}
use Rattle.spm_tables.proofs.queues.MessageQueues.has_waiting.Goals as goal

pub returns-clause-waits : goal.returns-clause-waits
returns-clause-waits c =
    rw (c.is_some.ensures, c.ends_at-ends.ensures, c.as_slice.ensures.value, ← c.self.view_is)
    (waits-first c.self.inside.messages.value c.self.inside.links.items.items c.self.inside.ends.items.items c.args.service c.self.invariant)

pub returns-clause-there : goal.returns-clause-there
returns-clause-there c =
    let q = c.self.inside in
    let waits : c.is_some.result ≡ has_waiting q.messages.value c.args.service =
    rw (c.is_some.ensures, c.ends_at-ends.ensures, c.as_slice.ensures.value) (waits-first q.messages.value q.links.items.items q.ends.items.items c.args.service c.self.invariant) in
    rw (← c.self.view_is) (λ e. waits-known q.messages.value q.links.items.items q.ends.items.items c.args.service c.self.invariant (sym waits ∙ e))
