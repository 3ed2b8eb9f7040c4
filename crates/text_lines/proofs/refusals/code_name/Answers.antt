-- The two tables agree by computing.
use Rattle.text_lines.specs.Refusals.{code_name, code_names}
use Rattle.text_lines.proofs.refusals.code_name.Goals as goal

pub returns : goal.returns
unfolding code_name code_names
returns c = c.name_in.ensures
