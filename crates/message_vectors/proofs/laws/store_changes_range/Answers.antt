use Rattle.memory_image.proofs.Outside.{store_number-outside}
use Rattle.message_vectors.proofs.laws.store_changes_range.Goals as goal

pub returns : goal.returns
returns c = store_number-outside
