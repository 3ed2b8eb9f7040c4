use Rattle.message_vectors.proofs.Reached.{vectors_of-same}
use Rattle.message_vectors.proofs.laws.vectors_tell_ram.Goals as goal

pub returns : goal.returns
returns c = vectors_of-same
