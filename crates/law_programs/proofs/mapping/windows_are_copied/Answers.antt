use Rattle.law_programs.proofs.Copies.{inputs-are-copied, outputs-are-copied}
use Rattle.law_programs.proofs.mapping.windows_are_copied.Goals as goal

pub returns-clause-inputs : goal.returns-clause-inputs
returns-clause-inputs c = inputs-are-copied

pub returns-clause-outputs : goal.returns-clause-outputs
returns-clause-outputs c = outputs-are-copied
