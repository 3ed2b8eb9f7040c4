use Rattle.machine_calls.proofs.Fitting.{still_fit}
use Rattle.machine_calls.proofs.machine.Objects.call_on.Goals as goal

pub returns-in_err-send-clause-fits : goal.returns-in_err-send-clause-fits
returns-in_err-send-clause-fits c = λ regions vectors fit. c.send.ensures.fits regions vectors (still_fit regions c.args.self.now c.set_connection_phase.new.self c.set_connection_phase.ensures.messages fit)

pub returns-clause-fits : goal.returns-clause-fits
returns-clause-fits c = λ regions vectors fit. c.send.ensures.fits regions vectors (still_fit regions c.args.self.now c.set_connection_phase.new.self c.set_connection_phase.ensures.messages fit)
