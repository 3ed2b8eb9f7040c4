use Rattle.law_counting.proofs.Runs.{run-objects, run-handles}
use Rattle.law_counting.proofs.objects_fit.Goals as goal

pub returns-clause-objects : goal.returns-clause-objects
returns-clause-objects c = run-objects

pub returns-clause-handles : goal.returns-clause-handles
returns-clause-handles c = run-handles
