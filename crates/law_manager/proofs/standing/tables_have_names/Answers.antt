use Rattle.law_manager.proofs.Naming.{have-names, slots-follow}
use Rattle.law_manager.proofs.standing.tables_have_names.Goals as goal

pub returns : goal.returns
returns c = record { names = have-names; event = slots-follow }
