use Rattle.std.proofs.Common.{◌≡◌, ◌<◌, ◌∙◌, ap, length, arith, Bool, List}
use Rattle.dependency_circle.specs.Ways.{is_unmarked_before}
use Rattle.dependency_circle.proofs.SpreadLemmas.{took, left}
use Rattle.dependency_circle.proofs.ways.spread.Goals.{then-is_unmarked_before+in_ok-add, else-is_unmarked_before}
use Rattle.dependency_circle.proofs.ways.spread.Goals as goal

pub loop-x-preserved : goal.loop-x-preserved
loop-x-preserved g c =
    let edge = g.G.Graph.edge c.args.graph.now in
    let x = c.loop-x.x in
    let low : x < length c.args.marks.now.items = omega (arith, c.loop-x-test.true, c.requires) in
    let want : c.is_unmarked_before.result ≡ is_unmarked_before c.loop-x.marks.items edge c.args.y x =
    c.is_unmarked_before.ensures ∙ ap (λ (t : List Bool). is_unmarked_before t edge c.args.y x) c.as_slice.ensures.value in
    elim c.if-is_unmarked_before.branch [
      | then-is_unmarked_before+in_ok-add w ↦ rw (w.found-is, w.marks-is) (took edge c.args.y c.args.found.now.items c.args.marks.now.items c.loop-x.found.items w.add.new.found.items
          c.loop-x.marks.items w.add.new.marks.items x c.is_unmarked_before.result low c.loop-x.invariant want w.if-is_unmarked_before.true w.in_ok-add.ensures.found w.in_ok-add.ensures.marks)
      | else-is_unmarked_before w ↦ rw (w.found-is, w.marks-is) (left edge c.args.y c.args.found.now.items c.args.marks.now.items c.loop-x.found.items
          c.loop-x.marks.items x c.is_unmarked_before.result c.loop-x.invariant want w.if-is_unmarked_before.false)
    ]
