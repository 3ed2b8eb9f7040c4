use Rattle.script_engines.proofs.StepLemmas.{fits-at, local-found, local-none}
use Rattle.script_engines.proofs.script.local_step.Goals as goal

pub line_effect-requires-clause-fits : goal.line_effect-requires-clause-fits
line_effect-requires-clause-fits c = fits-at _ _ _ c.requires c.if-place-script.false

pub returns-clause-local : goal.returns-clause-local
returns-clause-local c = local-found _ _ _ _ _ c.if-place-script.false c.line_effect.ensures.local

pub returns-clause-call : goal.returns-clause-call
returns-clause-call c = local-none _ _ _ _ c.if-place-script.false c.line_effect.ensures.call
