use Rattle.std.proofs.Common.{arith, sym, ◌∙◌}
use Rattle.object_pools.proofs.Stores.{live-length}
use Rattle.object_pools.proofs.Updates.{order-fits}
use Rattle.object_pools.proofs.pool.Pool.live.Goals as goal

pub overflow_cast-result : goal.overflow_cast-result
overflow_cast-result g c = omega (arith, c.len.ensures.value, order-fits _ _ _ _ c.self.invariant, c.self.invariant.few)

pub returns : goal.returns
returns g c = rw (← c.self.view_is) (c.len.ensures.value ∙ sym (live-length _ _ _ _ c.self.invariant))
