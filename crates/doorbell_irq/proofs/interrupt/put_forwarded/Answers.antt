use Rattle.std.proofs.Common.{◌≡◌, Bool, rules, ◌∙◌, ap}
use Rattle.ffm_model.specs.declared.objects.SourceFlags.{SourceFlags}
use Rattle.ffm_model.specs.SignalCalls.{forwarded, with_flags}
use Rattle.spm_tables.specs.TablesView.{handling, spm_of}
use Rattle.doorbell_irq.proofs.HandlingLemmas.{handling-is}
use Rattle.doorbell_irq.proofs.NameLemmas.{fits-beside, names-beside, within-beside}
use Rattle.doorbell_irq.proofs.interrupt.put_forwarded.Goals as goal

pub returns-clause-answer : goal.returns-clause-answer
returns-clause-answer c = λ s made.
    let own : c.forwarded.result ≡ forwarded (handling c.args.tables.now c.args.source) c.args.flags = search rules in
    c.set_source_flags.ensures.state
    ∙ ap (λ (f : SourceFlags). with_flags (spm_of c.args.tables.now) c.args.source f) own
    ∙ ap (λ (b : Bool). with_flags (spm_of c.args.tables.now) c.args.source (forwarded b c.args.flags)) (handling-is s c.args.tables.now made c.args.source)

pub returns-clause-names : goal.returns-clause-names
returns-clause-names c = λ s made. names-beside s c.args.tables.now c.set_source_flags.new.self c.args.tables.now.doorbells _ c.set_source_flags.ensures.after

pub returns-clause-fits : goal.returns-clause-fits
returns-clause-fits c = fits-beside c.args.tables.now c.set_source_flags.new.self c.args.tables.now.doorbells _ c.set_source_flags.ensures.after

pub returns-clause-within : goal.returns-clause-within
returns-clause-within c = within-beside c.args.tables.now c.set_source_flags.new.self c.args.tables.now.doorbells _ c.set_source_flags.ensures.after
