use Rattle.doorbell_irq.proofs.NameLemmas.{fits-beside, names-beside, within-beside}
use Rattle.law_calls.proofs.Changes.{names_kept}
use Rattle.doorbell_irq.proofs.interrupt.reset.Goals as goal

pub returns-in_err-source-clause-names : goal.returns-in_err-source-clause-names
returns-in_err-source-clause-names c = λ s made. names_kept s _

pub returns-then-not-flags-clause-names : goal.returns-then-not-flags-clause-names
returns-then-not-flags-clause-names c = λ s made. names_kept s _

pub returns-clause-names : goal.returns-clause-names
returns-clause-names c = λ s made. names-beside s c.args.tables.now c.set_source_flags.new.self c.args.tables.now.doorbells _ c.set_source_flags.ensures.after

pub returns-clause-fits : goal.returns-clause-fits
returns-clause-fits c = fits-beside c.args.tables.now c.set_source_flags.new.self c.args.tables.now.doorbells _ c.set_source_flags.ensures.after

pub returns-clause-within : goal.returns-clause-within
returns-clause-within c = within-beside c.args.tables.now c.set_source_flags.new.self c.args.tables.now.doorbells _ c.set_source_flags.ensures.after
