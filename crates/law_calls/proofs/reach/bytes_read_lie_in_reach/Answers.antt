use Rattle.law_calls.proofs.Told.{step-alike}
use Rattle.law_calls.proofs.reach.bytes_read_lie_in_reach.Goals as goal

pub returns : goal.returns
returns c = step-alike
