use Rattle.std.proofs.Common.{refl, sym, ◌∙◌}
use Rattle.law_calls.proofs.Changes.{names-same}
use Rattle.spm_core.proofs.InterruptLemmas.{is-flih}
use Rattle.spm_core.proofs.interrupts.fire_interrupt.Goals as goal

pub returns-then-not-may_fire-clause-names : goal.returns-then-not-may_fire-clause-names
returns-then-not-may_fire-clause-names c = names-same c.args.system.now c.args.tables.now c.args.tables.now refl refl

pub fire-requires-clause-flih : goal.fire-requires-clause-flih
fire-requires-clause-flih c = is-flih c.args.system.now c.args.tables.now c.args.source c.args.answer c.requires.made (sym c.may_fire.ensures ∙ c.if-not-may_fire.false)
