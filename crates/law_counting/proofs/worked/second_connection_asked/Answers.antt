-- Each clause holds by computing.
use Rattle.std.proofs.Common.{refl}
use Rattle.ffm_model.specs.Records.{ends_blocked}
use Rattle.ffm_model.specs.Step.{step}
use Rattle.law_counting.proofs.worked.second_connection_asked.Goals as goal

pub returns : goal.returns
unfolding step ends_blocked
returns c = record {
  connections = refl;
  as_many_as_declared = refl;
  budget_in_use = refl;
  numbers_rise = refl;
  message_of_the_second = refl;
  one_answer_awaited = refl;
  shown_rightly = refl;
  handle_of_the_first = refl;
  messages_made = refl;
  connections_owned = refl;
  client_waits = refl;
  vault_does_not = refl;
}
