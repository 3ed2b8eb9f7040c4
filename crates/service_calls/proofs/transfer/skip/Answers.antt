use Rattle.machine_rules.specs.Vectors.{AreMovedWithin}
use Rattle.service_calls.proofs.Held.{holds-at, message-is}
use Rattle.service_calls.proofs.TransferLemmas.{skip-due}
use Rattle.service_calls.proofs.Kept.{unchanged-names}
use Rattle.std.proofs.Common.{refl}
use Rattle.machine_rules.specs.Vectors.{AreWithin}
use Rattle.service_calls.proofs.transfer.skip.Goals as goal
use Rattle.ffm_model.specs.declared.machine.Outcome.TheVariants.{Number}
use Rattle.ffm_model.specs.ClientCalls.{move}
use Rattle.law_counting.proofs.CallsFit.{skip-fits}
use Rattle.spm_tables.specs.TablesView.{spm_of}

pub skip-count-requires-clause-moved : goal.skip-count-requires-clause-moved
skip-count-requires-clause-moved c = holds-at (λ m. AreMovedWithin m.vectors) c.args.tables.now c.in-Some.slot c.queued.result c.requires.moved c.queued.ensures

pub returns-clause-answer : goal.returns-clause-answer
returns-clause-answer c =
    let changed = rw c.queued.ensures at c.set_vectors.ensures.state in
    λ s made.
    skip-due s c.args.tables.now c.set_vectors.new.tables c.args.actor.0 c.args.index c.args.len c.skip-count.result c.args.handle c.in-Some.slot c.queued.result c.skip-count.new.vectors
    (message-is c.args.tables.now c.in-Some.slot c.queued.result _ c.queued.ensures (c.in-Some.ensures.request s made)) c.skip-count.ensures.number c.skip-count.ensures.vectors changed

pub returns-in_default-clause-names : goal.returns-in_default-clause-names
returns-in_default-clause-names c = λ s made. unchanged-names s c.args.tables.now c.args.tables.now refl

pub returns-clause-names : goal.returns-clause-names
returns-clause-names c = λ s made. c.set_vectors.ensures.names s

pub returns-clause-moved : goal.returns-clause-moved
returns-clause-moved c = c.set_vectors.ensures.moved c.skip-count.ensures.moved c.requires.moved

pub returns-clause-within : goal.returns-clause-within
returns-clause-within c = λ regions all.
    c.set_vectors.ensures.within regions (c.skip-count.ensures.within regions (holds-at (λ m. AreWithin regions m.vectors) c.args.tables.now c.in-Some.slot c.queued.result all c.queued.ensures)) all

pub returns-clause-fits : goal.returns-clause-fits
returns-clause-fits c = λ s made fit.
    skip-fits s (spm_of c.args.tables.now) c.args.actor.0 c.args.handle c.args.index c.args.len (move (Number c.skip-count.result) (spm_of c.set_vectors.new.tables)) fit (returns-clause-answer c s made)
