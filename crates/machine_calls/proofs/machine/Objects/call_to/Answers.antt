use Rattle.machine_calls.proofs.Fitting.{still_fit}
use Rattle.machine_calls.proofs.machine.Objects.call_to.Goals as goal

pub returns-clause-fits : goal.returns-clause-fits
returns-clause-fits c = λ regions vectors fit.
    still_fit regions c.add_request.new.self c.set_phase.new.self c.set_phase.ensures.messages (c.add_request.ensures.fits regions vectors fit)
