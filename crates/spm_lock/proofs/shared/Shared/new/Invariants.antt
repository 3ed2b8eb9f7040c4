use Rattle.std.proofs.Common.{◌≡◌, ◌≤◌, [], vec_capacity}
use Rattle.spm_lock.specs.Histories.{actors}
use Rattle.spm_lock.specs.Views.{maker}
use Rattle.spm_lock.specs.Passes.{FirstPasses, AreNew}
use Rattle.spm_lock.proofs.shared.Shared.new.Given as goal

abbrev pub invariant-loop-n : goal.invariant-loop-n
invariant-loop-n l =
    (l.source.table_id ≡ l.table.shared.table_id) × (l.source.me ≡ (maker l.start.value l.n, [])) × (l.count ≤ vec_capacity l.passes) × (l.count ≡ actors l.start.value.opening)
    × FirstPasses (record { table = l.table.shared.table_id; opening = l.start.value.opening }) l.n l.passes.items × AreNew l.passes.items
