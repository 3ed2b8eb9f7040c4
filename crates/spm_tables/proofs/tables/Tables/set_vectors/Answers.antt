use Rattle.std.proofs.Common.{refl}
use Rattle.spm_tables.proofs.MessageLemmas.{vectors-states}
use Rattle.spm_tables.proofs.SlotLemmas.{services-written, slots-written}
use Rattle.spm_tables.proofs.WordLemmas.{shows-same}
use Rattle.spm_tables.specs.contracts.tables.Tables.{the_view}
use Rattle.spm_tables.proofs.tables.Tables.set_vectors.Goals as goal

pub returns-clause-state : goal.returns-clause-state
returns-clause-state c =
    let t = c.self.inside in
    rw (← c.self.view_is) (vectors-states (the_view t) t.queues.services c.set_vectors.new.self c.args.slot c.args.vectors c.law.ensures c.set_vectors.ensures.after)

pub invariant_of-self : goal.invariant_of-self
invariant_of-self c =
    let t = c.self.inside in
    let r = c.set_vectors.new.self in
    let live = rw (← c.self.view_is) at c.requires in (
      shows-same t.board t.queues r c.self.invariant.0 (services-written t.queues r c.args.slot (λ m. record m { vectors = c.args.vectors }) live c.set_vectors.ensures.after) c.set_vectors.ensures.all,
      slots-written t.connections.value t.queues r c.args.slot (λ m. record m { vectors = c.args.vectors }) (λ m. refl) (λ m. refl) live c.set_vectors.ensures.after c.self.invariant.1,
    )
