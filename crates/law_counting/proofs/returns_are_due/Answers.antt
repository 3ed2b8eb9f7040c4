use Rattle.law_counting.proofs.Returns.{run-returns}
use Rattle.law_counting.proofs.returns_are_due.Goals as goal

pub returns : goal.returns
returns c = run-returns
