use Rattle.machine_rules.proofs.Fitting.{none_within}
use Rattle.machine_calls.proofs.Fitting.{still_fit}
use Rattle.machine_calls.proofs.machine.Objects.close_on.Goals as goal

pub returns-in_err-send-clause-fits : goal.returns-in_err-send-clause-fits
returns-in_err-send-clause-fits c = λ regions fit. c.send.ensures.fits regions (none_within regions) (still_fit regions c.args.self.now c.set_connection_phase.new.self c.set_connection_phase.ensures.messages fit)
