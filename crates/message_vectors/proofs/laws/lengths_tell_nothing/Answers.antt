use Rattle.message_vectors.proofs.Reached.{lengths_written-tells}
use Rattle.message_vectors.proofs.laws.lengths_tell_nothing.Goals as goal

pub returns : goal.returns
returns c = lengths_written-tells
