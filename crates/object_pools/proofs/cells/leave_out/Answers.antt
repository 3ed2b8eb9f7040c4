use Rattle.std.proofs.Common.{rules}
use Rattle.arrayvec.proofs.ArrayVecLemmas.{filter-from_retain}
use Rattle.object_pools.proofs.cells.leave_out.Goals as goal

pub returns : goal.returns
returns g c = filter-from_retain _ _ _ (λ x b f' y k. (search rules, search rules, search rules)) _ _ c.retain.ensures.filtered
