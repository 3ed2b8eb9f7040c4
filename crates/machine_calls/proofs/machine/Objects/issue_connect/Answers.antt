use Rattle.machine_rules.proofs.Fitting.{none_within}
use Rattle.machine_calls.proofs.machine.Objects.issue_connect.Goals as goal

pub returns-clause-fits : goal.returns-clause-fits
returns-clause-fits c = λ regions fit. c.send.ensures.fits regions (none_within regions) fit
