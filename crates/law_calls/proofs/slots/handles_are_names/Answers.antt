use Rattle.law_calls.proofs.Due.{due-at-get, due-at-return, names-begin}
use Rattle.law_calls.proofs.slots.handles_are_names.Goals as goal

pub returns : goal.returns
returns c = record { opening = names-begin; at_return = due-at-return; at_get = due-at-get }
