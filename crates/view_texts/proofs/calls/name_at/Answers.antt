-- The two tables agree by computing.
use Rattle.view_texts.specs.Calls.{call_names, name_at}
use Rattle.view_texts.proofs.calls.name_at.Goals as goal

pub returns : goal.returns
unfolding name_at call_names
returns c = c.name_in.ensures
