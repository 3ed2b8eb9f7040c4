use Rattle.std.proofs.Common.{sym}
use Rattle.memory_image.specs.Pieces.{regions_of}
use Rattle.memory_image.proofs.Systems.{buffer_inside}
use Rattle.machine_rules.specs.Vectors.{AreWithin}
use Rattle.service_calls.proofs.Held.{holds-at, message-is}
use Rattle.service_calls.proofs.TransferLemmas.{write-due}
use Rattle.service_calls.proofs.Kept.{unchanged-names}
use Rattle.std.proofs.Common.{refl, subst}
use Rattle.std.specs.Prelude.{All}
use Rattle.spm_tables.specs.TablesView.{spm_of}
use Rattle.service_calls.proofs.transfer.write.Goals as goal
use Rattle.std.proofs.Common.{[]}
use Rattle.ffm_model.specs.declared.machine.Outcome.TheVariants.{Done}
use Rattle.ffm_model.specs.ClientCalls.{effect}
use Rattle.law_counting.proofs.CallsFit.{write-fits}
use Rattle.memory_image.specs.Pieces.{byte_at}
use Rattle.spm_tables.specs.Answers.{state_with}

pub write-requires-clause-within : goal.write-requires-clause-within
write-requires-clause-within c =
    holds-at (λ m. AreWithin (regions_of c.args.image.now) m.vectors) c.args.tables.now c.in-Some.slot c.queued.result c.requires.premises.vectors c.queued.ensures

pub write-requires-clause-buffer : goal.write-requires-clause-buffer
write-requires-clause-buffer c = rw c.requires.premises.regions (buffer_inside c.args.system.now c.args.actor.0 c.args.buffer c.args.len (sym c.if-not-valid_buffer.ensures))

pub returns-clause-answer : goal.returns-clause-answer
returns-clause-answer c =
    let changed = rw c.queued.ensures at c.set_vectors.ensures.state in
    λ given.
    write-due c.args.system.now c.args.tables.now c.set_vectors.new.tables given c.args.image.now c.write.new.image c.args.actor.0 c.args.index c.args.buffer c.args.len
    c.args.handle c.in-Some.slot c.queued.result c.write.new.vectors
    (message-is c.args.tables.now c.in-Some.slot c.queued.result _ c.queued.ensures (c.in-Some.ensures.request c.args.system.now c.requires.premises.made)) (sym c.if-not-valid_buffer.ensures)
    (sym c.in_ok-write.ensures.exact) c.in_ok-write.ensures.vectors c.in_ok-write.ensures.bytes changed

pub returns-in_default-clause-names : goal.returns-in_default-clause-names
returns-in_default-clause-names c = unchanged-names c.args.system.now c.args.tables.now c.args.tables.now refl

pub returns-then-not-valid_buffer-clause-names : goal.returns-then-not-valid_buffer-clause-names
returns-then-not-valid_buffer-clause-names c = unchanged-names c.args.system.now c.args.tables.now c.args.tables.now refl

pub returns-in_err-write-clause-names : goal.returns-in_err-write-clause-names
returns-in_err-write-clause-names c = unchanged-names c.args.system.now c.args.tables.now c.args.tables.now refl

pub returns-clause-names : goal.returns-clause-names
returns-clause-names c = c.set_vectors.ensures.names c.args.system.now

pub returns-clause-vectors : goal.returns-clause-vectors
returns-clause-vectors c =
    c.set_vectors.ensures.within (regions_of c.write.new.image) c.in_ok-write.ensures.within (subst (λ rs. All (λ m. AreWithin rs m.vectors) (spm_of c.args.tables.now).messages) (sym c.in_ok-write.ensures.regions) c.requires.premises.vectors)

pub returns-clause-fits : goal.returns-clause-fits
returns-clause-fits c = λ fit.
    write-fits c.args.system.now (state_with c.args.tables.now [] (byte_at c.args.image.now)) c.args.actor.0 c.args.handle c.args.index c.args.buffer c.args.len
    (effect Done (state_with c.set_vectors.new.tables [] (byte_at c.write.new.image))) fit (returns-clause-answer c [])
