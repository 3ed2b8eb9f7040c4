use Rattle.std.proofs.Common.{Bool, cond, ap, refl, sym, ◌∙◌}
use Rattle.std.specs.Prelude.{Option, None, Some}
use Rattle.ffm_model.specs.declared.machine.Outcome.TheVariants.{Done}
use Rattle.ffm_model.specs.ClientCalls.{Move, move}
use Rattle.law_calls.proofs.Changes.{names-same}
use Rattle.spm_tables.specs.TablesView.{spm_of}
use Rattle.spm_core.proofs.InterruptLemmas.{is-slih}
use Rattle.spm_core.proofs.interrupts.raise_interrupt.Goals as goal

pub returns-then-not-may_raise-clause-names : goal.returns-then-not-may_raise-clause-names
returns-then-not-may_raise-clause-names c = names-same c.args.system.now c.args.tables.now c.args.tables.now refl refl

pub returns-clause-answer : goal.returns-clause-answer
returns-clause-answer c =
    c.raise.ensures.answer c.args.system.now c.requires.made
    ∙ ap (λ (b : Bool). cond {A = Option Move} b None (Some (move Done (spm_of c.raise.new.tables))))
    (is-slih c.args.system.now c.args.tables.now c.args.source c.requires.made (sym c.may_raise.ensures ∙ c.if-not-may_raise.false))
