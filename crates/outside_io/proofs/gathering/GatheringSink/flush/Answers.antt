use Rattle.outside_io.proofs.After.{flush_through}
use Rattle.outside_io.proofs.gathering.GatheringSink.flush.Goals as goal

pub returns : goal.returns
returns g c = flush_through _ _ _ _ c.flush.result c.in_ok-hand_on.ensures c.flush.ensures
