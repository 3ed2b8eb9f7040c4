use Rattle.std.proofs.Common.{◌≡◌, ◌&&◌, not, filter, drop}
use Rattle.std.specs.List.{list_any, enumerate_from}
use Rattle.ffm_model.specs.Permissions.{permitted, is_for}
use Rattle.ffm_model.specs.Repeats.{first}
use Rattle.manifest_compile.proofs.budgets.first_without_permission.Given as goal

-- the first one of those that are left is the first of all
abbrev pub invariant-loop-place : goal.invariant-loop-place
invariant-loop-place l = first (filter (λ e. not (list_any (λ pair. pair.connects && is_for pair e.1) (permitted l.parts))) (enumerate_from l.place (drop l.place l.connection-items))) ≡ first (filter (λ e. not (list_any (λ pair. pair.connects && is_for pair e.1) (permitted l.parts))) (enumerate_from 0 l.parts.connections))
