use Rattle.std.proofs.Common.{arith}
use Rattle.std.proofs.lemmas.Bool.Decides.{nat_tests}
use Rattle.region_map.proofs.OverlapLemmas.{none_reaches}
use Rattle.region_map.proofs.overlap.meets_earlier.Goals as goal

pub returns-in-Some-clause-miss : goal.returns-in-Some-clause-miss
returns-in-Some-clause-miss c = λ no.
    let range = c.range.ensures.in_range tt in
    let entry = range.3 _ _ c.in-Some.ensures.steps in
    let greatest = range.4 _ _ c.in-Some.ensures.steps in
    none_reaches c.args.earlier.now c.args.region.now _ c.in-Some.base.now c.in-Some.size.now c.requires.earlier (omega (arith, c.requires.region.0)) entry.1 (λ q up some. greatest q (tt, up) some) (grind (arith, nat_tests))
