use Rattle.law_counting.proofs.Fresh.{run-names}
use Rattle.law_counting.proofs.names_are_fresh.Goals as goal

pub returns : goal.returns
returns c = run-names
