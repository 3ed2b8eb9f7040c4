use Rattle.std.proofs.Common.{◌≡◌, ◌≤◌, ◌∙◌, ap, sym, arith, get_or, false}
use Rattle.dependency_circle.proofs.NextLemmas.{first_more, first_none}
use Rattle.dependency_circle.proofs.next.next_first.Goals as goal

pub loop-home-preserved : goal.loop-home-preserved
loop-home-preserved g c =
    let marks = c.in_ok-marks.marks.items in
    let unmarked : get_or marks c.loop-home.home false ≡ false = sym (c.index.ensures ∙ ap (get_or marks c.loop-home.home) c.if-index.false) ∙ c.if-index.false in
    first_more c.args.count (g.G.Graph.edge c.args.graph.now) marks c.loop-home.home c.in_ok-marks.ensures c.loop-home.invariant unmarked

pub returns : goal.returns
returns g c =
    let past : c.args.count ≤ c.loop-home.home = c.loop-home-test.false in
    first_none c.args.count (g.G.Graph.edge c.args.graph.now) (λ j h. c.loop-home.invariant j (omega (arith, h, past)))
