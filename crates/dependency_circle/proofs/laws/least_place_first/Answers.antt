use Rattle.dependency_circle.proofs.RotationLemmas.{begins_with_least}
use Rattle.dependency_circle.proofs.laws.least_place_first.Goals as goal

pub returns : goal.returns
returns c = begins_with_least
