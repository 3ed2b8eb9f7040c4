use Rattle.std.proofs.Common.{◌≡◌, map, take}
use Rattle.manifest_compile.specs.Budgets.{budget_by}
use Rattle.manifest_compile.specs.Pairs.{pair_seen}
use Rattle.manifest_compile.proofs.budgets.all_budgets.Given as goal

-- the budgets of the pairs so far
abbrev pub invariant-loop-pair : goal.invariant-loop-pair
invariant-loop-pair l = l.budgets.items ≡ map (budget_by l.counts) (map pair_seen (take l.pair-index l.pairs))
