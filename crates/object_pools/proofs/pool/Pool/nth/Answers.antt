use Rattle.std.proofs.Common.{length, arith, ap, ◌∙◌}
use Rattle.object_pools.proofs.Stores.{live-length}
use Rattle.object_pools.proofs.Updates.{held-place, no-place}
use Rattle.object_pools.proofs.pool.Pool.nth.Goals as goal

pub bounds-as_slice-place : goal.bounds-as_slice-place
bounds-as_slice-place g c =
    omega (arith, rw (← c.self.view_is) at c.requires, live-length _ _ _ _ c.self.invariant, ap length c.as_slice.ensures.value)

pub unreachable-requires : goal.unreachable-requires
unreachable-requires g c =
    no-place _ _ _ _ _ _ c.self.invariant (rw (← c.self.view_is) at c.requires) (rw (c.as_slice.ensures.value, c.as_slice-2.ensures.value) at c.held_at.ensures) c.in-None.is

pub returns : goal.returns
returns g c =
    rw (← c.self.view_is) (held-place _ _ _ _ _ _ c.self.invariant (rw (← c.self.view_is) at c.requires) (rw (c.as_slice.ensures.value, c.as_slice-2.ensures.value) at c.held_at.ensures) ∙ c.in-Some.is)
