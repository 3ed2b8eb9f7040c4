use Rattle.std.proofs.Common.{sym, ◌∙◌}
use Rattle.object_pools.proofs.Stores.{at-slot}
use Rattle.object_pools.proofs.pool.Pool.get.Goals as goal

pub returns : goal.returns
returns g c = rw (← c.self.view_is) (rw c.as_slice.ensures.value at c.item_in.ensures ∙ sym (at-slot _ _ _ _ c.self.invariant _))
