use Rattle.law_counting.proofs.Fresh.{run-named}
use Rattle.law_calls.proofs.Standing.{stands}
use Rattle.law_manager.proofs.standing.tables_stand_in_runs.Goals as goal

pub returns : goal.returns
returns c = λ s m es w is d bytes names spm memory. stands s es d bytes w (run-named s m es w is) names spm memory
