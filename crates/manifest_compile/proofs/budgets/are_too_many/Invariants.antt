use Rattle.std.proofs.Common.{◌≡◌, ◌+◌, sum_by, take}
use Rattle.manifest_compile.proofs.budgets.are_too_many.Given as goal

-- what is left beside the budgets so far
abbrev pub invariant-loop-budget : goal.invariant-loop-budget
invariant-loop-budget l = sum_by (λ b. b.count) (take l.budget-index l.budgets) + l.left ≡ 256
