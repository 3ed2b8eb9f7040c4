use Rattle.spm_tables.proofs.SlotLemmas.{slots-free}
use Rattle.spm_tables.proofs.tables.Tables.free.Goals as goal

pub invariant_of-self : goal.invariant_of-self
invariant_of-self c = rw (c.free.ensures.rest, c.deref_mut.ensures.value) (c.self.invariant.0, slots-free c.self.inside.connections.value c.self.inside.queues.messages c.args.slot c.self.invariant.1)
