use Rattle.handle_table.proofs.NameLemmas.{past-new, takes-next}
use Rattle.handle_table.proofs.names.name_law.Goals as goal

pub returns-clause-none : goal.returns-clause-none
returns-clause-none g c = λ size. past-new size

pub returns-clause-taken : goal.returns-clause-taken
returns-clause-taken g c = λ past slot item was free. takes-next _ past slot item was free
