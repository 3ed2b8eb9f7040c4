use Rattle.law_calls.proofs.Changes.{names_kept}
use Rattle.doorbell_irq.proofs.interrupt.eoi.Goals as goal

pub returns-in_err-source-clause-names : goal.returns-in_err-source-clause-names
returns-in_err-source-clause-names c = λ s made. names_kept s _

pub returns-then-not-flags-clause-names : goal.returns-then-not-flags-clause-names
returns-then-not-flags-clause-names c = λ s made. names_kept s _

pub returns-clause-names : goal.returns-clause-names
returns-clause-names c = c.put_forwarded.ensures.names

pub returns-clause-fits : goal.returns-clause-fits
returns-clause-fits c = c.put_forwarded.ensures.fits

pub returns-clause-within : goal.returns-clause-within
returns-clause-within c = c.put_forwarded.ensures.within
