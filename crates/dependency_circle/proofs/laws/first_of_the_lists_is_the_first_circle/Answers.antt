use Rattle.dependency_circle.proofs.FirstLemmas.{first_answers}
use Rattle.dependency_circle.proofs.laws.first_of_the_lists_is_the_first_circle.Goals as goal

pub returns : goal.returns
returns c = first_answers
