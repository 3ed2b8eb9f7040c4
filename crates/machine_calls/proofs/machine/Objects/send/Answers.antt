use Rattle.machine_calls.proofs.Fitting.{still_fit}
use Rattle.machine_calls.proofs.machine.Objects.send.Goals as goal

pub returns-clause-fits : goal.returns-clause-fits
returns-clause-fits c = λ regions vectors fit.
    still_fit regions c.add_message.new.self c.set_phase.new.self c.set_phase.ensures.messages (c.add_message.ensures.fits regions vectors fit)
