use Rattle.message_vectors.proofs.Reached.{load_number-same}
use Rattle.message_vectors.proofs.laws.load_tells_range.Goals as goal

pub returns : goal.returns
returns c = load_number-same
