use Rattle.std.proofs.Common.{map, take}
use Rattle.manifest_compile.specs.Budgets.{HasPairs}
use Rattle.manifest_compile.specs.Pairs.{pair_seen}
use Rattle.manifest_compile.proofs.budgets.names_of_pairs.Given as goal

-- the set has the pairs so far
abbrev pub invariant-loop-pair : goal.invariant-loop-pair
invariant-loop-pair l = HasPairs l.names (take l.pair-index (map pair_seen l.pairs))
