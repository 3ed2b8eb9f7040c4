use Rattle.law_calls.proofs.Changes.{names_kept}
use Rattle.doorbell_irq.proofs.interrupt.fire.Goals as goal

pub returns-else-answer-eq1-clause-names : goal.returns-else-answer-eq1-clause-names
returns-else-answer-eq1-clause-names c = λ s made. names_kept s _
