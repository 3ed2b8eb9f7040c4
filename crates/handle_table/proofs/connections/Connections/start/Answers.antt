use Rattle.std.proofs.Common.{refl}
use Rattle.handle_table.proofs.TableLemmas.{IsTable-start, spm-start}
use Rattle.handle_table.proofs.connections.Connections.start.Goals as goal

pub invariant_of-self : goal.invariant_of-self
invariant_of-self c = rw c.in-Ok.ensures.takes.after (IsTable-start c.self.inside.pool _ _ c.self.invariant c.takes.ensures refl)

pub returns-clause-state : goal.returns-clause-state
returns-clause-state c = rw (← c.self.view_is, c.in-Ok.ensures.takes.after, c.takes.ensures) (spm-start c.self.inside.pool _ _)
