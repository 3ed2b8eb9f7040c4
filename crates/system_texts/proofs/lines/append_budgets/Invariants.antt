use Rattle.std.proofs.Common.{◌≡◌, ◌++◌, drop}
use Rattle.std.specs.List.{flat_map}
use Rattle.ffm_model.specs.Listing.{budget_line}
use Rattle.system_texts.proofs.lines.append_budgets.Given as goal

-- the lines so far, and then those of the other pairs
abbrev pub invariant-loop-budget : goal.invariant-loop-budget
invariant-loop-budget l = l.text.items ++ flat_map (budget_line l.system) (drop l.budget-index l.system.budgets) ≡ l.initial.text.items ++ flat_map (budget_line l.system) l.system.budgets
