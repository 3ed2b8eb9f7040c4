use Rattle.std.proofs.Common.{refl}
use Rattle.spm_tables.proofs.SlotLemmas.{slots-changed}
use Rattle.spm_tables.proofs.tables.Tables.set_connection_phase.Goals as goal

pub invariant_of-self : goal.invariant_of-self
invariant_of-self c = (
  c.self.invariant.0,
  slots-changed c.self.inside.connections.value c.set_phase.new.self c.self.inside.queues.messages c.args.slot (λ d. record d { phase = c.args.phase }) (λ d. refl)
      (rw (← c.self.view_is) at c.requires) (rw c.deref_mut.ensures.value at c.set_phase.ensures.item) c.self.invariant.1,
)
