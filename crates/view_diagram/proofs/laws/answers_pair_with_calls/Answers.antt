use Rattle.view_diagram.proofs.Pairs.{each-answer-pairs}
use Rattle.view_diagram.proofs.laws.answers_pair_with_calls.Goals as goal

pub returns : goal.returns
returns c = each-answer-pairs
