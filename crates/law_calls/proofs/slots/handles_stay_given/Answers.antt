use Rattle.law_calls.proofs.Given.{given-filter, given-on, given-put, given-taken, given-untouched}
use Rattle.law_calls.proofs.slots.handles_stay_given.Goals as goal

pub returns : goal.returns
returns c = record {
  untouched = given-untouched;
  connection_changes = given-put _ _;
  connection_comes = given-taken _ _;
  connections_go = given-filter _ _;
  message_changes = given-put _ _;
  message_comes = given-taken _ _;
  messages_go = given-filter _ _;
  both = given-on;
}
