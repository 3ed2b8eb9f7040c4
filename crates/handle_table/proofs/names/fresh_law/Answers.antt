use Rattle.handle_table.proofs.FreshLemmas.{GivesFresh-new, kept-in, stays-fresh}
use Rattle.handle_table.proofs.names.fresh_law.Goals as goal

pub returns-clause-none : goal.returns-clause-none
returns-clause-none g c = λ f n told size. GivesFresh-new f n told size

pub returns-clause-keeps : goal.returns-clause-keeps
returns-clause-keeps g c = λ f n told given few below v. stays-fresh f n told below _ given (kept-in n _ _ few c.law.ensures) v
