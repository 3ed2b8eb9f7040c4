use Rattle.law_examples.proofs.Worked.{client_first_named, follow_without_names, other_handle_legal, other_handle_unnamed, run_where_legal}
use Rattle.law_examples.proofs.scenarios.names_fix_handles.Goals as goal

pub returns : goal.returns
returns c = record { named = client_first_named; unnamed = other_handle_unnamed; legal = other_handle_legal; follow_without_names = follow_without_names; run_where_legal = run_where_legal }
