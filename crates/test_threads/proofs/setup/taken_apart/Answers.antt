use Rattle.std.proofs.Common.{rules, sym, ◌∙◌}
use Rattle.test_threads.proofs.Threes.{three_apart}
use Rattle.test_threads.proofs.setup.taken_apart.Goals as goal

pub returns : goal.returns
returns c = three_apart c.args.shared.now c.args.passes _ _ _ c.in_ok-first.first c.in_ok-second.second c.in_ok-third.third c.requires
    (sym c.into_vec-passes.ensures ∙ c.in_ok-third.ensures.items) c.in_ok-second.ensures.items c.in_ok-first.ensures.items (search rules)
