use Rattle.doorbell_irq.proofs.interrupt.raise.Goals as goal

pub returns-clause-names : goal.returns-clause-names
returns-clause-names c = c.put_forwarded.ensures.names

pub returns-clause-fits : goal.returns-clause-fits
returns-clause-fits c = c.put_forwarded.ensures.fits

pub returns-clause-within : goal.returns-clause-within
returns-clause-within c = c.put_forwarded.ensures.within
