use Rattle.law_examples.proofs.Worked.{client_first_run, client_first_scheduled, one_in_any_turns, vault_first_run}
use Rattle.law_examples.proofs.scenarios.turns_are_the_freedom.Goals as goal

pub returns : goal.returns
returns c = record { scheduled = client_first_scheduled; first_order = client_first_run; second_order = vault_first_run; one_in_any_turns = one_in_any_turns }
