use Rattle.law_counting.proofs.Slots.{run-makes}
use Rattle.law_counting.proofs.Fresh.{run-takes, few-takes}
use Rattle.law_counting.proofs.takes_are_few.Goals as goal

pub returns-clause-connections : goal.returns-clause-connections
returns-clause-connections c = run-makes

pub returns-clause-takes : goal.returns-clause-takes
returns-clause-takes c = run-takes

pub returns-clause-generations : goal.returns-clause-generations
returns-clause-generations c = few-takes
