use Rattle.actor_programs.proofs.FileLemmas.{listed}
use Rattle.actor_programs.proofs.laws.files_list_their_scripts.Goals as goal

pub returns : goal.returns
returns c = listed
