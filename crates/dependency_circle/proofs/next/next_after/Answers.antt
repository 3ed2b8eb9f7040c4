use Rattle.std.proofs.Common.{◌≤◌, ◌∙◌, ap, sym, arith, List, Bool}
use Rattle.dependency_circle.proofs.NextLemmas.{goes_on, after_found, after_more, after_none, after_badly}
use Rattle.dependency_circle.proofs.next.next_after.Goals as goal

pub returns-then-not-begins_well : goal.returns-then-not-begins_well
returns-then-not-begins_well g c =
    after_badly c.args.count (g.G.Graph.edge c.args.graph.now) c.args.home c.args.rest.now c.args.front.now c.requires (sym c.if-not-begins_well.ensures)

pub returns-then-goes_on : goal.returns-then-goes_on
returns-then-goes_on g c =
    let edge = g.G.Graph.edge c.args.graph.now in (
      after_found c.args.count edge c.args.home c.args.rest.now c.args.front.now c.in_ok-marks.marks.items c.loop-k.k c.requires c.in_ok-marks.ensures (sym c.if-not-begins_well.ensures)
          (ap (λ (t : List Bool). goes_on c.args.count edge c.args.home c.args.rest.now c.args.front.now t c.loop-k.k) (sym c.as_slice.ensures.value) ∙ sym c.if-goes_on.ensures),
      c.loop-k.invariant,
    )

pub loop-k-preserved : goal.loop-k-preserved
loop-k-preserved g c =
    let edge = g.G.Graph.edge c.args.graph.now in
    after_more c.args.count edge c.args.home c.args.rest.now c.args.front.now c.in_ok-marks.marks.items c.loop-k.k c.requires c.in_ok-marks.ensures c.loop-k.invariant
    (ap (λ (t : List Bool). goes_on c.args.count edge c.args.home c.args.rest.now c.args.front.now t c.loop-k.k) (sym c.as_slice.ensures.value) ∙ sym c.if-goes_on.ensures)

pub returns : goal.returns
returns g c =
    let past : c.args.count ≤ c.loop-k.k = c.loop-k-test.false in
    after_none c.args.count (g.G.Graph.edge c.args.graph.now) c.args.home c.args.rest.now c.args.front.now c.requires (λ j h. c.loop-k.invariant j (omega (arith, h, past)))
