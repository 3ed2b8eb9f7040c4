use Rattle.mm_iovec.proofs.VectorLemmas.{state-set}
use Rattle.mm_iovec.proofs.vector.set_state.Goals as goal

pub returns-then-place-vectors : goal.returns-then-place-vectors
returns-then-place-vectors c = state-set _ _ _ _
