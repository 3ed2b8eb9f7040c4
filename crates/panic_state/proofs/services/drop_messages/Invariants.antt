use Rattle.std.proofs.Common.{◌≡◌, ◌-◌, length}
use Rattle.panic_state.specs.Losses.{without_messages}
use Rattle.panic_state.proofs.Walks.{messages_from}
use Rattle.panic_state.proofs.services.drop_messages.Given as goal

abbrev pub invariant-loop-place : goal.invariant-loop-place
invariant-loop-place l = messages_from l.system l.partition.0 l.place l.tables ≡ without_messages l.system l.partition.0 l.fn.tables

abbrev pub decreases-loop-place : goal.decreases-loop-place
decreases-loop-place l = length l.tables.messages.held - l.place
