use Rattle.std.proofs.Common.{◌<◌, ◌≤◌, length, arith}
use Rattle.dependency_circle.proofs.SearchLemmas.{search_init, search_step, search_smaller, search_ends}
use Rattle.dependency_circle.proofs.ways.ways.Goals as goal

pub places-init : goal.places-init
places-init g c =
    search_init c.args.count (g.G.Graph.edge c.args.graph.now) c.args.home c.args.front.now c.new-found.result.items c.spread.new.found.items c.in_ok-marks.marks.items c.spread.new.marks.items
    c.new-found.ensures.items c.in_ok-marks.ensures c.in_ok-spread.ensures.found c.in_ok-spread.ensures.marks

pub places-preserved : goal.places-preserved
places-preserved g c =
    let low : c.places.i < length c.places.found.items = omega (arith, c.len.ensures, c.places-test.true) in
    search_step c.args.count (g.G.Graph.edge c.args.graph.now) c.args.home c.args.front.now c.places.found.items c.spread-in-places.new.found.items c.places.marks.items c.spread-in-places.new.marks.items
    c.places.i c.index-y.result.now low c.places.invariant c.index-y.ensures c.in_ok-spread-2.ensures.found c.in_ok-spread-2.ensures.marks

pub places-smaller : goal.places-smaller
places-smaller g c =
    let low : c.places.i < length c.places.found.items = omega (arith, c.len.ensures, c.places-test.true) in
    search_smaller c.args.count (g.G.Graph.edge c.args.graph.now) c.args.home c.args.front.now c.places.found.items c.places.i low c.places.invariant.1

pub returns : goal.returns
returns g c =
    let past : length c.places.found.items ≤ c.places.i = omega (arith, c.len.ensures, c.places-test.false) in
    search_ends c.args.count (g.G.Graph.edge c.args.graph.now) c.args.home c.args.front.now c.places.found.items c.places.i c.places.marks.items past c.places.invariant.1 c.places.invariant.0
