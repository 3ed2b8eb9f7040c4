use Rattle.std.proofs.Common.{◌≤◌, length, refl, arith}
use Rattle.object_pools.proofs.Lent.{lent-live, lent-other, lent-past, lent-written, lent-value, written-back, under-name}
use Rattle.object_pools.proofs.Updates.{Stored-put}
use Rattle.object_pools.proofs.pool.Pool.get_mut.Goals as goal

pub invariant_of-self-lent : goal.invariant_of-self-lent
invariant_of-self-lent g c = λ w.
    let live = lent-live c.self.inside.cells.items c.args.slot c.in-Some.cell.now _ (c.in-Some.ensures.variant.0 refl) c.in-Some.ensures.value c.if-slot.false c.in-Some-item.is in
    rw (c.if-slot.false, c.in-Some-item.is) (Stored-put _ _ _ _ _ _ w c.self.invariant live)

pub returns-in-Some-item : goal.returns-in-Some-item
returns-in-Some-item g c =
    let live = lent-live c.self.inside.cells.items c.args.slot c.in-Some.cell.now _ (c.in-Some.ensures.variant.0 refl) c.in-Some.ensures.value c.if-slot.false c.in-Some-item.is in
    rw (← c.self.view_is, c.if-slot.false, c.in-Some-item.is) (
      under-name _ (lent-written _ _ _ _ _ _ c.self.invariant live),
      record { writes_back = tt; value = lent-value _ _ _ _ _ _ c.self.invariant live },
    )

pub returns-in-None-item : goal.returns-in-None-item
returns-in-None-item g c =
    let dead = lent-live c.self.inside.cells.items c.args.slot c.in-Some.cell.now _ (c.in-Some.ensures.variant.0 refl) c.in-Some.ensures.value c.if-slot.false c.in-None-item.is in
    rw (← c.self.view_is) (
      written-back c.self.inside.cells.items c.self.inside.order.items c.self.inside.takes c.args.slot c.in-Some.cell.now c.in-Some.ensures.value,
      record { writes_back = tt; value = lent-value _ _ _ _ _ _ c.self.invariant dead },
    )

pub returns-in-Some : goal.returns-in-Some
returns-in-Some g c =
    let dead = lent-other c.self.inside.cells.items c.args.slot c.in-Some.cell.now (c.in-Some.ensures.variant.0 refl) c.in-Some.ensures.value c.if-slot.true in
    rw (← c.self.view_is) (
      written-back c.self.inside.cells.items c.self.inside.order.items c.self.inside.takes c.args.slot c.in-Some.cell.now c.in-Some.ensures.value,
      record { writes_back = tt; value = lent-value _ _ _ _ _ _ c.self.invariant dead },
    )

pub returns-in-None : goal.returns-in-None
returns-in-None g c =
    let past : length c.self.inside.cells.items ≤ c.args.slot.index = grind (arith, c.in-None.ensures.variant) in
    rw (← c.self.view_is) (
      refl,
      record { writes_back = tt; value = lent-value _ _ _ _ _ _ c.self.invariant (lent-past _ _ past) },
    )
