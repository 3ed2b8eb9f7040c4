use Rattle.explore_commands.proofs.Answered.{ends_unread}
use Rattle.explore_commands.proofs.ends.status_of.Goals as goal

pub returns-in-Err : goal.returns-in-Err
returns-in-Err g c = ends_unread _ _ _ _
