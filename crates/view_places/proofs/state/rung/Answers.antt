use Rattle.std.proofs.Common.{false, get_or}
use Rattle.view_places.proofs.Ranges.{filter_step}
use Rattle.view_places.proofs.state.rung.Goals as goal

pub loop-partition-preserved : goal.loop-partition-preserved
loop-partition-preserved c = filter_step (λ p. get_or c.args.doorbells.now p false) c.loop-partition.partition _ _ _ _ _ c.loop-partition-test.true c.is_rung.ensures c.in_ok-add_where.ensures c.loop-partition.invariant
