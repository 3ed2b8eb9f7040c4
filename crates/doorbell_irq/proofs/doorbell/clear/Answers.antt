use Rattle.doorbell_irq.proofs.NameLemmas.{fits-beside, names-beside, within-beside}
use Rattle.law_calls.proofs.Changes.{names_kept}
use Rattle.doorbell_irq.proofs.doorbell.clear.Goals as goal

pub returns-then-not-doorbell-clause-names : goal.returns-then-not-doorbell-clause-names
returns-then-not-doorbell-clause-names c = λ s made. names_kept s _

pub returns-clause-names : goal.returns-clause-names
returns-clause-names c = λ s made. names-beside s c.args.tables.now c.set_doorbell.new.self _ c.args.tables.now.flags c.set_doorbell.ensures.after

pub returns-clause-fits : goal.returns-clause-fits
returns-clause-fits c = fits-beside c.args.tables.now c.set_doorbell.new.self _ c.args.tables.now.flags c.set_doorbell.ensures.after

pub returns-clause-within : goal.returns-clause-within
returns-clause-within c = within-beside c.args.tables.now c.set_doorbell.new.self _ c.args.tables.now.flags c.set_doorbell.ensures.after
