use Rattle.std.proofs.Common.{◌≡◌, ◌++◌, drop, filter, option_map}
use Rattle.view_diagram.specs.Diagrams.{is_between}
use Rattle.view_diagram.proofs.choosing.arrows_between.Given as goal

-- the arrows so far, and then those among the others
abbrev pub invariant-loop-placed : goal.invariant-loop-placed
invariant-loop-placed l =
    l.kept.items ++ filter (is_between (option_map (λ actors. actors.now) l.chosen)) (drop l.placed-index l.arrows)
    ≡ filter (is_between (option_map (λ actors. actors.now) l.chosen)) l.arrows
