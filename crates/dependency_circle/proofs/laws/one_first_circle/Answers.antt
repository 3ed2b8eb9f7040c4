use Rattle.dependency_circle.proofs.FirstLemmas.{same_first_circle}
use Rattle.dependency_circle.proofs.laws.one_first_circle.Goals as goal

pub returns : goal.returns
returns c = same_first_circle
