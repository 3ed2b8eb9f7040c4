use Rattle.std.proofs.Common.{refl}
use Rattle.spm_tables.proofs.SlotLemmas.{slots-changed}
use Rattle.spm_tables.proofs.tables.Tables.set_rhandle.Goals as goal

pub invariant_of-self : goal.invariant_of-self
invariant_of-self c = (
  c.self.invariant.0,
  slots-changed c.self.inside.connections.value c.set_rhandle.new.self c.self.inside.queues.messages c.args.slot (λ d. record d { rhandle = c.args.rhandle }) (λ d. refl)
      (rw (← c.self.view_is) at c.requires) (rw c.deref_mut.ensures.value at c.set_rhandle.ensures.item) c.self.invariant.1,
)
