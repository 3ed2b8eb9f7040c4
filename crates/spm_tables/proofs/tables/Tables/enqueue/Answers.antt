use Rattle.std.proofs.Common.{ap}
use Rattle.spm_tables.specs.TablesView.{queued}
use Rattle.spm_tables.specs.Queues.{QueuesView}
use Rattle.spm_tables.proofs.SlotLemmas.{belongs-queued, slots-take}
use Rattle.spm_tables.proofs.WordLemmas.{shows-changed}
use Rattle.spm_tables.proofs.tables.Tables.enqueue.Goals as goal

pub invariant_of-self : goal.invariant_of-self
invariant_of-self c =
    let t = c.self.inside in
    rw c.set_waiting.ensures (
      shows-changed t.board t.queues c.enqueue-slot.new.self c.queued-message.result.service c.has_waiting-waits.result c.self.invariant.0 (ap (λ (q : QueuesView). q.services) c.enqueue-slot.ensures.after)
          c.enqueue-slot.ensures.others c.has_waiting-waits.ensures.waits c.has_waiting-waits.ensures.there,
      rw (c.enqueue-slot.ensures.after, c.queued-message.ensures, c.deref-2.ensures)
          (slots-take t.connections.value t.queues.messages c.enqueue-slot.result (queued t.connections.value c.args.item) (belongs-queued t.connections.value c.args.item (rw c.deref.ensures at c.law.ensures.pool) (rw c.deref.ensures at c.law.ensures.table)) c.self.invariant.1),
    )
