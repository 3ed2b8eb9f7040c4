use Rattle.message_vectors.proofs.Reached.{copy_bytes-tells}
use Rattle.message_vectors.proofs.laws.copy_tells_source.Goals as goal

pub returns : goal.returns
returns c = copy_bytes-tells
