use Rattle.std.proofs.Common.{rules}
use Rattle.object_pools.proofs.Updates.{live-item, live-within, Stored-put, places-put}
use Rattle.object_pools.proofs.pool.Pool.set.Goals as goal

pub put-requires : goal.put-requires
put-requires g c =
    let live = live-item _ _ _ _ _ c.self.invariant (rw (← c.self.view_is) at c.requires) in
    (search rules, live-within _ _ _ live.1)

pub invariant_of-self : goal.invariant_of-self
invariant_of-self g c =
    let live = live-item _ _ _ _ _ c.self.invariant (rw (← c.self.view_is) at c.requires) in
    rw c.put.ensures (Stored-put _ _ _ _ _ _ _ c.self.invariant live.1)

pub returns : goal.returns
returns g c =
    let live = live-item _ _ _ _ _ c.self.invariant (rw (← c.self.view_is) at c.requires) in
    rw (← c.self.view_is, c.put.ensures) (places-put _ _ _ _ _ _ _ c.self.invariant live.1)
