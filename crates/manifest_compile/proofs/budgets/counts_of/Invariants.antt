use Rattle.std.proofs.Common.{◌≡◌, ℕ, List, take}
use Rattle.manifest_compile.specs.Budgets.{count_in, named_pair}
use Rattle.manifest_compile.proofs.BudgetLemmas.{last_count}
use Rattle.manifest_compile.proofs.budgets.counts_of.Given as goal

-- the map has the items so far
abbrev pub invariant-loop-connection : goal.invariant-loop-connection
invariant-loop-connection l = (client service : List ℕ) → count_in l.counts client service ≡ last_count (named_pair client service) (take l.connection-index l.connections)
