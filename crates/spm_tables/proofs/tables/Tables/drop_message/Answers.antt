use Rattle.std.proofs.Common.{ap, sym, ◌∙◌}
use Rattle.spm_tables.specs.declared.item.MessageItem.{MessageItem}
use Rattle.spm_tables.specs.Queues.{QueuesView}
use Rattle.spm_tables.proofs.MessageLemmas.{dropped-state}
use Rattle.spm_tables.proofs.SlotLemmas.{slots-drop}
use Rattle.spm_tables.proofs.WordLemmas.{shows-changed}
use Rattle.spm_tables.specs.contracts.tables.Tables.{the_view}
use Rattle.spm_tables.proofs.tables.Tables.drop_message.Goals as goal

pub returns-clause-state : goal.returns-clause-state
returns-clause-state c =
    rw (← c.self.view_is, c.set_waiting.ensures, c.take_out-message.ensures.after)
    (λ on. dropped-state (the_view c.self.inside) c.args.slot c.take_out-message.result c.law.ensures c.take_out-message.ensures.item (ap (λ (m : MessageItem). m.delivered) (sym c.item.ensures) ∙ on))

pub invariant_of-self : goal.invariant_of-self
invariant_of-self c =
    let t = c.self.inside in
    rw c.set_waiting.ensures (
      shows-changed t.board t.queues c.take_out-message.new.self c.take_out-message.result.service c.has_waiting-waits.result c.self.invariant.0 (ap (λ (q : QueuesView). q.services) c.take_out-message.ensures.after)
          c.take_out-message.ensures.others c.has_waiting-waits.ensures.waits c.has_waiting-waits.ensures.there,
      rw c.take_out-message.ensures.after (slots-drop t.connections.value t.queues.messages c.args.slot c.self.invariant.1),
    )
