use Rattle.memory_image.proofs.Outside.{copy_bytes-outside}
use Rattle.message_vectors.proofs.laws.copy_changes_target.Goals as goal

pub returns : goal.returns
returns c = copy_bytes-outside
