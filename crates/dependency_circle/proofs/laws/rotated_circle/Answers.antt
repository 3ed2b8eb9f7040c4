use Rattle.dependency_circle.proofs.RotationLemmas.{rotated}
use Rattle.dependency_circle.proofs.laws.rotated_circle.Goals as goal

pub returns : goal.returns
returns c = rotated
