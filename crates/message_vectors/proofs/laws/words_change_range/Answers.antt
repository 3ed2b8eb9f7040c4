use Rattle.memory_image.proofs.Outside.{words_stored-outside}
use Rattle.message_vectors.proofs.laws.words_change_range.Goals as goal

pub returns : goal.returns
returns c = words_stored-outside
