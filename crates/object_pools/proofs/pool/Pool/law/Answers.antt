use Rattle.object_pools.proofs.Updates.{Kept}
use Rattle.object_pools.proofs.pool.Pool.law.Goals as goal

pub returns : goal.returns
returns g c = rw (← c.self.view_is) (Kept _ _ _ _ c.self.invariant)
