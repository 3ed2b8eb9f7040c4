use Rattle.law_calls.proofs.Owed.{follows-joined, follows-owed}
use Rattle.law_calls.proofs.Panics.{follows-panicked, takes-first, takes-more, takes-connections}
use Rattle.law_calls.proofs.slots.panics_follow_names.Goals as goal

pub returns : goal.returns
returns c = record {
  messages_go = takes-first;
  connections_go = takes-connections;
  message_comes = takes-more;
  panic = follows-panicked;
  both = follows-joined;
  owed = follows-owed;
}
