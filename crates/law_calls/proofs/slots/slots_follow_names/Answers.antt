use Rattle.law_calls.proofs.Changes.{follows-asked, follows-connected, follows-connection, follows-freed, follows-message, follows-same}
use Rattle.law_calls.proofs.Removals.{follows-answered, follows-ended, follows-replied}
use Rattle.law_calls.proofs.slots.slots_follow_names.Goals as goal

pub returns : goal.returns
returns c = record {
  untouched = follows-same;
  connection_changes = follows-connection;
  message_changes = follows-message;
  connection_is_made = follows-connected;
  message_is_sent = follows-asked;
  connection_goes = follows-freed;
  message_goes = follows-replied;
  message_is_answered = follows-answered;
  both_go = follows-ended;
}
