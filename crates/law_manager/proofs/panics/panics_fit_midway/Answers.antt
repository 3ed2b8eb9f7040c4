use Rattle.law_manager.proofs.TablesMidway.{tables-fit, tables-within}
use Rattle.law_manager.proofs.panics.panics_fit_midway.Goals as goal

pub returns-clause-fits : goal.returns-clause-fits
returns-clause-fits c = tables-fit

pub returns-clause-within : goal.returns-clause-within
returns-clause-within c = tables-within
