use Rattle.std.proofs.Common.{rules, sym, ◌∙◌}
use Rattle.object_pools.proofs.Stores.{at-slot}
use Rattle.object_pools.proofs.Updates.{live-item, live-within, Stored-out, places-out}
use Rattle.object_pools.proofs.pool.Pool.put_back.Goals as goal

pub put-requires : goal.put-requires
put-requires g c =
    let live = live-item _ _ _ _ _ c.self.invariant (rw (← c.self.view_is) at c.requires) in
    (search rules, live-within _ _ _ live.1)

pub invariant_of-self : goal.invariant_of-self
invariant_of-self g c =
    let live = live-item _ _ _ _ _ c.self.invariant (rw (← c.self.view_is) at c.requires) in
    rw (c.put.ensures, c.leave_out.ensures) (Stored-out _ _ _ _ _ _ c.self.invariant live.1)

pub unreachable-requires : goal.unreachable-requires
unreachable-requires g c =
    let live = live-item _ _ _ _ _ c.self.invariant (rw (← c.self.view_is) at c.requires) in
    cc (live.1, c.in-None.is, c.copied.ensures, rw c.as_slice.ensures.value at c.item_in.ensures)

pub returns-clause-item : goal.returns-clause-item
returns-clause-item g c =
    rw (← c.self.view_is) (at-slot _ _ _ _ c.self.invariant _ ∙ sym (rw c.as_slice.ensures.value at c.item_in.ensures) ∙ sym c.copied.ensures ∙ c.in-Some.is)

pub returns-clause-rest : goal.returns-clause-rest
returns-clause-rest g c =
    let live = live-item _ _ _ _ _ c.self.invariant (rw (← c.self.view_is) at c.requires) in
    rw (← c.self.view_is, c.put.ensures, c.leave_out.ensures) (places-out _ _ _ _ _ _ c.self.invariant live.1)
