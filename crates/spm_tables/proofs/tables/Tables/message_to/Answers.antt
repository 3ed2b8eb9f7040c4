use Rattle.spm_tables.proofs.MessageLemmas.{none-seen}
use Rattle.spm_tables.proofs.tables.Tables.message_to.Goals as goal

pub returns-clause-none : goal.returns-clause-none
returns-clause-none c = rw (← c.self.view_is, ← c.messages.ensures) (λ e. none-seen c.args.service c.messages.result.now.held (c.least_to.ensures.none e))
