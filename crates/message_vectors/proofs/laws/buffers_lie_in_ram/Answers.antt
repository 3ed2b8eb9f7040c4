use Rattle.message_vectors.proofs.Reached.{buffer-ram}
use Rattle.message_vectors.proofs.laws.buffers_lie_in_ram.Goals as goal

pub returns : goal.returns
returns c = buffer-ram
