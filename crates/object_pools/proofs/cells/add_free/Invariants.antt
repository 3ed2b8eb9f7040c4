use Rattle.std.proofs.Common.{◌≡◌, length}
use Rattle.std.specs.Prelude.{replicate, None}
use Rattle.object_pools.proofs.cells.add_free.Given as goal

abbrev pub invariant-loop-i : goal.invariant-loop-i
invariant-loop-i g l = record {
  cells : l.cells.items ≡ replicate l._i (record { generation = 0; item = None });
  count : length l.cells.items ≡ l._i;
}
