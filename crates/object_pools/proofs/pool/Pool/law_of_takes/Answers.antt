use Rattle.object_pools.proofs.pool.Pool.law_of_takes.Goals as goal

pub returns : goal.returns
returns g c = rw (← c.self.view_is) c.self.invariant.total
