use Rattle.std.proofs.Common.{sym, ◌∙◌}
use Rattle.object_pools.proofs.Stores.{at-index}
use Rattle.object_pools.proofs.pool.Pool.at.Goals as goal

pub returns : goal.returns
returns g c = rw (← c.self.view_is) (rw c.as_slice.ensures.value at c.held_at.ensures ∙ sym (at-index _ _ _ _ c.self.invariant _))
