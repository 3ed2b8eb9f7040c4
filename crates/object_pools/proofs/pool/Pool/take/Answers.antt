use Rattle.std.proofs.Common.{rules, arith, sym, ◌∙◌, refl}
use Rattle.object_pools.proofs.Updates.{given-takes, order-room, slot-free, slot-none, held-full, held-room, free-below, free-none, Stored-take, places-take}
use Rattle.object_pools.proofs.pool.Pool.take.Goals as goal

pub returns-in_default-clause-takes : goal.returns-in_default-clause-takes
returns-in_default-clause-takes g c =
    let none = sym (rw (c.as_slice.ensures.value, c.len.ensures.value) at c.lowest_free.ensures) ∙ c.in_default.is in
    rw (← c.self.view_is) (record { full = slot-none _ _ _ _ c.self.invariant none; same = refl; unchanged = refl })

pub returns-in_default-clause-full : goal.returns-in_default-clause-full
returns-in_default-clause-full g c =
    let none = sym (rw (c.as_slice.ensures.value, c.len.ensures.value) at c.lowest_free.ensures) ∙ c.in_default.is in
    rw (← c.self.view_is) ((λ _. held-full _ _ _ _ c.self.invariant none), λ _. refl)

pub overflow_add-generation : goal.overflow_add-generation
overflow_add-generation g c =
    omega (arith, rw c.as_slice-2.ensures.value at c.generation_at-generation.ensures, given-takes _ _ _ _ c.self.invariant c.in-Some.index, c.self.invariant.takes_left)

pub put-requires : goal.put-requires
put-requires g c =
    let found = sym (rw (c.as_slice.ensures.value, c.len.ensures.value) at c.lowest_free.ensures) ∙ c.in-Some.is in
    (search rules, free-below _ _ found)

pub push-requires : goal.push-requires
push-requires g c =
    let found = sym (rw (c.as_slice.ensures.value, c.len.ensures.value) at c.lowest_free.ensures) ∙ c.in-Some.is in
    (search rules, omega (arith, order-room _ _ _ _ _ c.self.invariant found, c.self.invariant.size))

pub invariant_of-self : goal.invariant_of-self
invariant_of-self g c =
    let found = sym (rw (c.as_slice.ensures.value, c.len.ensures.value) at c.lowest_free.ensures) ∙ c.in-Some.is in
    rw (c.put.ensures, c.push.ensures.items, rw c.as_slice-2.ensures.value at c.generation_at-generation.ensures)
    (Stored-take _ _ _ _ _ _ c.self.invariant (rw (← c.self.view_is) at c.requires) (free-below _ _ found) (free-none _ _ found))

pub returns-clause-takes : goal.returns-clause-takes
returns-clause-takes g c =
    let found = sym (rw (c.as_slice.ensures.value, c.len.ensures.value) at c.lowest_free.ensures) ∙ c.in-Some.is in
    rw (← c.self.view_is, c.put.ensures, c.push.ensures.items, rw c.as_slice-2.ensures.value at c.generation_at-generation.ensures) (record {
      lowest = slot-free _ _ _ _ _ c.self.invariant found;
      after = places-take _ _ _ _ _ _ c.self.invariant (free-below _ _ found) (free-none _ _ found);
    })

pub returns-clause-full : goal.returns-clause-full
returns-clause-full g c =
    let found = sym (rw (c.as_slice.ensures.value, c.len.ensures.value) at c.lowest_free.ensures) ∙ c.in-Some.is in
    rw (← c.self.view_is) ((λ e. cc), λ e. absurd (omega (arith, held-room _ _ _ _ _ c.self.invariant found)))
