use Rattle.explore_commands.proofs.Found.{found_status}
use Rattle.explore_commands.proofs.top.found.Goals as goal

pub returns-clause-status : goal.returns-clause-status
returns-clause-status g c = found_status c.in_ok-system.found c.status.result c.status.ensures
