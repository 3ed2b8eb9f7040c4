use Rattle.machine_calls.proofs.machine.Objects.reply.Goals as goal

pub returns-in_ok-panic-clause-fits : goal.returns-in_ok-panic-clause-fits
returns-in_ok-panic-clause-fits c = λ regions fits. c.panic.ensures.fits regions (c.close_message.ensures.fits regions fits)
