use Rattle.std.proofs.Common.{◌≡◌, rules, ap, refl}
use Rattle.object_pools.specs.Pool.{Places, empty}
use Rattle.object_pools.specs.Cells.{places_of}
use Rattle.object_pools.proofs.Updates.{Stored-new, generations-new, no-cells, no-order}
use Rattle.object_pools.proofs.pool.Pool.add_places.Goals as goal

pub add_free-requires : goal.add_free-requires
add_free-requires g c =
    let p = c.self.inside in
    (search rules, (no-cells p.cells.items p.order.items p.takes (rw c.self.view_is c.requires.none), c.requires.fits))

pub invariant_of-self : goal.invariant_of-self
invariant_of-self g c =
    let p = c.self.inside in
    let none : places_of p.cells.items p.order.items p.takes ≡ empty 0 = rw c.self.view_is c.requires.none in
    rw (no-order _ p.cells.items p.order.items p.takes c.self.invariant none, ap (λ (q : Places g.row.T.Denot). q.takes) none)
    (Stored-new _ c.args.size _ c.add_free.ensures.items c.add_free.ensures.count c.requires.fits c.ranges.size.fits)

pub returns : goal.returns
returns g c =
    let p = c.self.inside in
    let none : places_of p.cells.items p.order.items p.takes ≡ empty 0 = rw c.self.view_is c.requires.none in
    rw (no-order _ p.cells.items p.order.items p.takes c.self.invariant none, ap (λ (q : Places g.row.T.Denot). q.takes) none, generations-new c.args.size _ c.add_free.ensures.items) refl
